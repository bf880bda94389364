use Rattle.std.proofs.Common.{subst}
use Rattle.bl_rob.specs.CallResults.{IsRunOf, outcome_in, shown}
use Rattle.bl_build.specs.StageAnswers.{prepared_in}
use Rattle.bl_app.proofs.SpecLemmas.{said_run}
use Rattle.bl_app.proofs.spec.last_text.Goals as goal

pub returns-in-Some-2 : goal.returns-in-Some-2
returns-in-Some-2 c =
    let outcome = outcome_in c.args.rob.now.program (shown c.args.rob.now.machine) in
    said_run c.plain_text.result (prepared_in c.args.prepared.now) outcome c.in-Some-2.run' c.args.refused c.in_default.is
    (subst (IsRunOf outcome) c.in-Some-2.is c.in_ok-run.ensures) c.plain_text.ensures
