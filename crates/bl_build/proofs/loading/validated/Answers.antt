use Rattle.bl_build.specs.StageAnswers.{checked_in}
use Rattle.bl_build.proofs.ModuleAnswers.{not_valid}
use Rattle.bl_build.proofs.loading.validated.Goals as goal

pub returns-in-Ok : goal.returns-in-Ok
returns-in-Ok c = record { same = λ i. record { name = c.args.one.name.now; tree = c.in-Ok.ensures.valid.0 i }; holds = c.in-Ok.ensures.valid.1 }

pub returns-in-Err : goal.returns-in-Err
returns-in-Err c =
    not_valid checked_in c.args.one.name c.args.one.tree c.in-Err.reason c.in-Err.ensures.reason c.of_validation.result c.of_validation.ensures
