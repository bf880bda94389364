use Rattle.std.proofs.Common.{refl, subst}
use Rattle.std.specs.Prelude.{Err, Ok}
use Rattle.bl_wasm.specs.declared.module.Module.{Module}
use Rattle.bl_build.specs.LoadStages.{AreTold}
use Rattle.bl_build.specs.StageAnswers.{ready_in}
use Rattle.bl_build.proofs.ModuleAnswers.{not_labelled}
use Rattle.bl_build.proofs.loading.labelled.Goals as goal

pub returns-in-Ok-clause-staged : goal.returns-in-Ok-clause-staged
returns-in-Ok-clause-staged c =
    record { same_name = refl; same_tree = refl; told = subst (λ (tree : Module). AreTold tree (Ok c.in-Ok.labels)) c.module.ensures.same c.in-Ok.ensures.told }

pub returns-in-Err-clause-staged : goal.returns-in-Err-clause-staged
returns-in-Err-clause-staged c =
    not_labelled ready_in c.args.one.name c.args.one.wasm c.in-Err.error (subst (λ (tree : Module). AreTold tree (Err c.in-Err.error)) c.module.ensures.same c.in-Err.ensures.told)
    c.of_labels.result c.of_labels.ensures
