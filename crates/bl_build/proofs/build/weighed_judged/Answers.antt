use Rattle.bl_program.specs.declared.definitions.ProgramParts.{ProgramParts as Program}
use Rattle.bl_build.specs.BuildStages.{sizing, without_image}
use Rattle.bl_build.specs.WeightStages.{weighing}
use Rattle.bl_job.specs.Stages.{at_first, chain}
use Rattle.bl_build.proofs.BuildLemmas.{still_refused, unmade_behind}
use Rattle.bl_build.proofs.build.weighed_judged.Goals as goal

pub returns-in-Ok : goal.returns-in-Ok
returns-in-Ok c = unmade_behind (weighing c.args.counts.now) sizing c.args.program c.in-Ok.program c.judged.result c.in-Ok.ensures c.judged.ensures

pub returns-in-Err : goal.returns-in-Err
returns-in-Err c =
    still_refused (weighing c.args.counts.now) (without_image (chain (weighing c.args.counts.now) sizing)) (λ (program : Program). program) (λ (program : Program). program) c.args.program
    (λ refusal r. at_first r) c.in-Err.error c.in-Err.ensures
