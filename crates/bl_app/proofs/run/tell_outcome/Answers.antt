use Rattle.std.proofs.Common.{map}
use Rattle.bl_base.specs.Runs.{outcome_of}
use Rattle.bl_job.specs.WorkAnswers.{keep_in}
use Rattle.bl_app.proofs.run.tell_outcome.Goals as goal

pub returns : goal.returns
returns c = record {
  outcome = outcome_of c.in_ok-run.run';
  within = c.in_ok-run.ensures;
  is_plan = λ i. record { status = c.outcome_status-status.ensures i; keeps = map keep_in (c.new.ensures.items i); text = c.in_ok-text.ensures i };
}
