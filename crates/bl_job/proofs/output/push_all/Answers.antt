use Rattle.std.proofs.Common.{◌-◌, length, drop, arith, ◌∙◌}
use Rattle.std.proofs.lemmas.List.{length-drop, take_all}
use Rattle.bl_job.proofs.SinkTexts.{push_further}
use Rattle.bl_job.proofs.output.push_all.Goals as goal

pub loop-done-preserved : goal.loop-done-preserved
loop-done-preserved g c = let whole = take_all (length c.args.text.now - c.loop-done.done) (drop c.loop-done.done c.args.text.now) (omega (arith, length-drop c.loop-done.done c.args.text.now)) in record {
  within = omega (arith, length-drop c.loop-done.done c.args.text.now, c.in_ok-done.ensures.bound);
  taken = rw whole at c.in_ok-done.ensures.taken ∙ push_further c.loop-done.done c.in_ok-done.field-0 _ _ c.args.text.now c.loop-done.invariant.taken;
  faults = c.in_ok-done.ensures.faults ∙ c.loop-done.invariant.faults;
}
