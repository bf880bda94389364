use Rattle.std.proofs.Common.{map, ap, refl, sym}
use Rattle.bl_job.specs.WorkAnswers.{keep_in, plan_in}
use Rattle.bl_job.proofs.FetchLemmas.{kept_all, next_kept, next_not_kept}
use Rattle.bl_job.proofs.delivery.deliver.Goals as goal

pub loop-keep-preserved : goal.loop-keep-preserved
loop-keep-preserved g c =
    let kept = rw c.deref.ensures.value at c.in_default.ensures.kept in
    next_kept c.deref-keep-items.result.now c.loop-keep.keep-index c.keep-item.result c.loop-keep-test.true c.keep-item.is _ _ _ c.loop-keep.invariant kept c.in_default.ensures.faults refl

pub returns-in-Err : goal.returns-in-Err
returns-in-Err g c =
    next_not_kept c.deref-keep-items.result.now c.loop-keep.keep-index c.keep-item.result c.loop-keep-test.true c.keep-item.is _ _ _ c.loop-keep.invariant
    (plan_in c.args.plan.now) (ap (map keep_in) (sym c.deref-keep-items.ensures.value)) c.in-Err.error c.not_kept.result c.in-Err.ensures.refused c.in-Err.ensures.faults c.not_kept.ensures

pub returns : goal.returns
returns g c =
    let said = rw c.deref-2.ensures.value at c.say.ensures in
    kept_all (plan_in c.args.plan.now) c.deref-keep-items.result.now c.loop-keep.keep-index _ _ _ c.say.result (ap (map keep_in) (sym c.deref-keep-items.ensures.value)) c.loop-keep-test.false
    c.loop-keep.invariant refl refl said
