use Rattle.bl_program.specs.declared.definitions.ProgramParts.{ProgramParts as Program}
use Rattle.bl_build.specs.BuildStages.{building, compiling, without_image}
use Rattle.bl_build.specs.LoadStages.{loading}
use Rattle.bl_job.specs.Stages.{at_first}
use Rattle.bl_build.proofs.BuildLemmas.{still_refused, unmade_behind}
use Rattle.bl_build.proofs.build.compile_program.Goals as goal

pub returns-in-Ok : goal.returns-in-Ok
returns-in-Ok c = unmade_behind loading building _ c.in-Ok.linked c.build.result c.in-Ok.ensures c.build.ensures

pub returns-in-Err : goal.returns-in-Err
returns-in-Err c = still_refused loading (without_image compiling) (λ tree. tree) (λ (program : Program). program) _ (λ refusal r. at_first r) c.in-Err.error c.in-Err.ensures
