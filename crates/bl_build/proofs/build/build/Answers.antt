use Rattle.bl_program.specs.declared.definitions.ProgramParts.{ProgramParts as Program}
use Rattle.bl_build.specs.BuildStages.{building, lowering, sizing, without_image}
use Rattle.bl_job.specs.Stages.{at_first}
use Rattle.bl_build.proofs.BuildLemmas.{still_refused, unmade_behind}
use Rattle.bl_build.proofs.build.build.Goals as goal

pub returns-in-Ok : goal.returns-in-Ok
returns-in-Ok c = unmade_behind lowering sizing c.args.linked c.in-Ok.program c.judged.result c.in-Ok.ensures c.judged.ensures

pub returns-in-Err : goal.returns-in-Err
returns-in-Err c =
    still_refused lowering (without_image building) (λ (program : Program). program) (λ (program : Program). program) c.args.linked (λ refusal r. at_first r) c.in-Err.error c.in-Err.ensures
