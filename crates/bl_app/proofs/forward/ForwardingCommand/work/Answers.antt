use Rattle.bl_build.specs.StageAnswers.{twinned_in}
use Rattle.bl_app.proofs.forward.ForwardingCommand.work.Goals as goal

pub returns : goal.returns
returns c = record { made = twinned_in c.in_ok-twins.twins; passes = rw c.as_slice.ensures.value at c.in_ok-twins.ensures.staged; plans = c.in_ok-tell.ensures }
