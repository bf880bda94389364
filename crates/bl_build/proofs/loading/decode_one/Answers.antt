use Rattle.std.proofs.Common.{List, subst, ℕ}
use Rattle.bl_wasm.proofs.LimitLemmas.{few_functions}
use Rattle.bl_job.specs.WorkAnswers.{Tells, content_in}
use Rattle.bl_build.specs.LoadStages.{DecodingRefuses}
use Rattle.bl_build.specs.StageAnswers.{spelled_in}
use Rattle.bl_build.proofs.ModuleAnswers.{not_spelled}
use Rattle.bl_build.proofs.loading.decode_one.Goals as goal

pub returns-in-Ok-clause-staged : goal.returns-in-Ok-clause-staged
returns-in-Ok-clause-staged c = record { same_name = c.module_name-name.ensures; spelled = c.in-Ok.ensures.0; supported = c.in-Ok.ensures.1; within = c.in-Ok.ensures.2 }

pub returns-in-Ok-clause-few : goal.returns-in-Ok-clause-few
returns-in-Ok-clause-few c = few_functions c.in-Ok.tree c.in-Ok.ensures.2

pub returns-in-Err-clause-staged : goal.returns-in-Err-clause-staged
returns-in-Err-clause-staged c =
    let bytes = content_in c.args.content in
    let refused = not_spelled spelled_in c.module_name-name.result bytes c.in-Err.error c.in-Err.ensures c.of_decoding.result c.of_decoding.ensures in
    subst (λ (name : List ℕ). Tells (DecodingRefuses (record { name = name; bytes = bytes })) c.of_decoding.result) c.module_name-name.ensures refused
