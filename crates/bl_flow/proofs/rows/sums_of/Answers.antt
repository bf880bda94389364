use Rattle.std.proofs.Common.{arith, ◌≡◌, slice_index, ◌∙◌}
use Rattle.std.proofs.lemmas.List.{get_or_default}
use Rattle.bl_flow.proofs.AdjacencyCounts.{next_small}
use Rattle.bl_flow.proofs.rows.sums_of.Goals as goal

pub overflow_add-sum : goal.overflow_add-sum
overflow_add-sum c =
    let loop = c.loop-place in
    let places = loop.invariant.places in let test = c.loop-place-test.true in let end = c.len-place-end.ensures in let ok = c.args.numbers.ok.0 in
    let got : c.index.result.now ≡ slice_index loop.sums.items loop.place = c.index.ensures ∙ get_or_default loop.sums.items loop.place _ 0 (omega arith) in
    let small = next_small c.args.numbers.items loop.place loop.sum loop.sums.items loop.invariant (omega arith) in
    let all = c.requires in omega arith
