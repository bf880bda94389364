use Rattle.std.proofs.Common.{◌∙◌, refl, sym, ap, arith, ◌+◌, List, ◌++◌, ◌<◌, length}
use Rattle.bl_counts.proofs.RisingCounts.{passed_by, read_as, rising, taken}
use Rattle.bl_counts.proofs.weighing.weights_of.Goals as goal
use Rattle.bl_counts.proofs.weighing.weights_of.Goals.{in-Some+in_ok-push-in-Some, in-None+in_ok-push-in-None}
use Rattle.bl_program.specs.declared.definitions.SiteWeight.{SiteWeight}
use Rattle.bl_counts.specs.RunCounts.{count_in, weights_from}

pub loop-at-init : goal.loop-at-init
loop-at-init c = (
  ap (λ (l : List SiteWeight). l ++ weights_from (count_in c.args.counts.now) 0 c.args.parts.now.commands) c.new-weights.ensures,
  rising c.args.parts.now c.args.counts.now c.requires.rise,
  λ s le. refl,
)

pub loop-at-preserved : goal.loop-at-preserved
loop-at-preserved c =
    let lt = c.loop-at-test.true in
    let end = c.loop-at.auto.at-end in
    let len = c.len-at-end.ensures in
    let within : c.loop-at.at < length c.args.parts.now.commands = omega arith in
    elim c.match-count_at.branch [
      | in-Some+in_ok-push-in-Some w ↦
          read_as c.args.parts.now c.args.counts.now (c.loop-at.at + 1) _ _ _ _ w.next-is (w.weights-is ∙ w.in_ok-push-in-Some.ensures)
          (taken c.args.parts.now c.args.counts.now c.loop-at.next c.loop-at.at c.loop-at.weights within c.loop-at.invariant _ (sym w.in-Some.is ∙ c.count_at.ensures.count))
      | in-None+in_ok-push-in-None w ↦
          read_as c.args.parts.now c.args.counts.now (c.loop-at.at + 1) _ _ _ _ w.next-is (w.weights-is ∙ w.in_ok-push-in-None.ensures)
          (passed_by c.args.parts.now c.args.counts.now c.loop-at.next c.loop-at.at c.loop-at.weights within c.loop-at.invariant (sym w.in-None.is ∙ c.count_at.ensures.count))
    ]
