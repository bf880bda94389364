use Rattle.bl_build.specs.StageAnswers.{hardened_in}
use Rattle.bl_app.proofs.harden.HardenWordsCommand.work.Goals as goal

pub returns : goal.returns
returns c =
    let passed = c.in_ok-hardened.ensures in
    record {
      made = passed.0;
      passes = passed.1;
      plans = record { hardened = hardened_in c.in_ok-hardened.hardened; is_hardened = passed.2; is_plan = c.in_ok-plan_of.ensures };
    }
