use Rattle.std.proofs.Common.{◌≡◌, ◌<◌, ◌+◌, ◌++◌, ◌∷◌, [], ℕ, length, slice_index, take, arith}
use Rattle.std.proofs.lemmas.List.{take_more}
use Rattle.bl_transient.proofs.SearchMarks.{visited_yes, visited_no}
use Rattle.bl_transient.proofs.search.visit.Goals as goal
use Rattle.bl_transient.proofs.search.visit.Goals.{then-not-marks-node+in_ok-push, else-not-marks-node}

pub loop-node-preserved : goal.loop-node-preserved
loop-node-preserved c =
    let loop = c.loop-node in
    let u : ℕ = slice_index c.args.row.now loop.node-index in
    let lt = c.loop-node-test.true in
    let more : take (loop.node-index + 1) c.args.row.now ≡ take loop.node-index c.args.row.now ++ u ∷ [] = take_more c.args.row.now loop.node-index 0 lt in
    let below = c.requires loop.node-index 0 lt in
    let places = loop.invariant.places in
    let within : u < length loop.marks = omega arith in
    elim c.if-not-marks-node.branch [
      | then-not-marks-node+in_ok-push w ↦
          rw (more, w.marks-is, w.queue-is, w.in_ok-push.ensures.items)
          (visited_yes (take loop.node-index c.args.row.now) c.args.marks.now loop.marks c.args.queue.now.items loop.queue.items loop.invariant u w.if-not-marks-node.true within)
      | else-not-marks-node w ↦
          rw (more, w.marks-is, w.queue-is)
          (visited_no (take loop.node-index c.args.row.now) c.args.marks.now loop.marks c.args.queue.now.items loop.queue.items loop.invariant u w.if-not-marks-node.false)
    ]
