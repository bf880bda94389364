use Rattle.bl_program.specs.declared.definitions.ProgramParts.{ProgramParts as Program}
use Rattle.bl_build.specs.BuildStages.{compiling, without_image}
use Rattle.bl_build.specs.HardenStage.{hardening}
use Rattle.bl_build.specs.StageAnswers.{hardened_in}
use Rattle.bl_build.proofs.BuildLemmas.{still_refused}
use Rattle.bl_build.proofs.harden.compile_hardened.Goals as goal

pub returns-in_ok-protect_least-in-Ok : goal.returns-in_ok-protect_least-in-Ok
returns-in_ok-protect_least-in-Ok c =
    let judged = c.in-Ok.ensures in
    (record { program = c.in-Ok.program; image = judged.0 }, judged.1, c.in_ok-protect_least-in-Ok.ensures)

pub returns-in-Err : goal.returns-in-Err
returns-in-Err c = still_refused (without_image compiling) hardening (λ (program : Program). program) hardened_in _ (λ refusal r. r) c.in-Err.error c.in-Err.ensures
