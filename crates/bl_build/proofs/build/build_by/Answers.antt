use Rattle.std.proofs.Common.{Some}
use Rattle.bl_program.specs.declared.definitions.ProgramParts.{ProgramParts as Program}
use Rattle.bl_build.specs.BuildStages.{lowering, sizing, without_image}
use Rattle.bl_build.specs.WeightStages.{building_by, weighing}
use Rattle.bl_job.specs.Stages.{at_first, chain}
use Rattle.bl_build.proofs.BuildLemmas.{still_refused, unmade_behind}
use Rattle.bl_build.proofs.build.build_by.Goals as goal

pub returns-in-Ok : goal.returns-in-Ok
returns-in-Ok c = unmade_behind lowering (chain (weighing c.args.counts.now) sizing) c.args.linked c.in-Ok.program c.weighed_judged.result c.in-Ok.ensures c.weighed_judged.ensures

pub returns-in-Err : goal.returns-in-Err
returns-in-Err c =
    still_refused lowering (without_image (building_by (Some c.args.counts.now))) (λ (program : Program). program) (λ (program : Program). program) c.args.linked (λ refusal r. at_first r) c.in-Err.error
    c.in-Err.ensures
