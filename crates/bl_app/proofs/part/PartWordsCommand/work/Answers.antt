use Rattle.bl_build.specs.StageAnswers.{parted_in}
use Rattle.bl_app.proofs.part.PartWordsCommand.work.Goals as goal

pub returns : goal.returns
returns c = record { made = parted_in c.in_ok-parted.parted; passes = c.in_ok-parted.ensures.staged; plans = c.in_ok-plan_of.ensures }
