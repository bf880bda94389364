use Rattle.std.proofs.Common.{refl}
use Rattle.bl_program.specs.declared.definitions.ProgramParts.{ProgramParts as Program}
use Rattle.bl_build.specs.BuildStages.{compiling, without_image}
use Rattle.bl_build.specs.InterfaceStages.{parting}
use Rattle.bl_build.specs.StageAnswers.{parted_in}
use Rattle.bl_job.specs.Stages.{at_first}
use Rattle.bl_build.proofs.BuildLemmas.{still_refused}
use Rattle.bl_build.proofs.InterfaceWork.{parted}
use Rattle.bl_build.proofs.part.compile_part.Goals as goal

pub returns-in-Ok-clause-staged : goal.returns-in-Ok-clause-staged
returns-in-Ok-clause-staged c =
    let judged = c.in-Ok.ensures in
    parted c.args.role c.args.iface.now _ (record { program = c.in-Ok.program; image = judged.0 }) c.in-Ok.program c.part_program.result judged.1 refl c.part_program.ensures.staged

pub returns-in-Err-clause-staged : goal.returns-in-Err-clause-staged
returns-in-Err-clause-staged c = still_refused (without_image compiling) (parting c.args.role c.args.iface.now) (λ (program : Program). program) parted_in _ (λ refusal r. at_first r) c.in-Err.error c.in-Err.ensures
