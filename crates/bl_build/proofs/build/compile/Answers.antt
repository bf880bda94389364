use Rattle.bl_build.specs.BuildStages.{compiling, without_image}
use Rattle.bl_program.specs.declared.definitions.ProgramParts.{ProgramParts as Program}
use Rattle.bl_build.specs.StageAnswers.{built_in}
use Rattle.bl_build.proofs.BuildLemmas.{compiled_again, still_refused}
use Rattle.bl_build.proofs.build.compile.Goals as goal

pub returns-in_ok-with_image-in-Ok : goal.returns-in_ok-with_image-in-Ok
returns-in_ok-with_image-in-Ok c =
    let made = c.in_ok-with_image-in-Ok.ensures in
    compiled_again _ c.in-Ok.program (built_in c.in_ok-with_image-in-Ok.field-0) c.in-Ok.ensures made.0 made.1

pub returns-in-Err : goal.returns-in-Err
returns-in-Err c = still_refused (without_image compiling) compiling (λ (program : Program). program) built_in _ (λ refusal r. r) c.in-Err.error c.in-Err.ensures
