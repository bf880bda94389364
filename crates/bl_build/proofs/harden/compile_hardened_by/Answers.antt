use Rattle.std.proofs.Common.{Bor, List, map, ℕ}
use Rattle.bl_program.specs.declared.definitions.ProgramParts.{ProgramParts as Program}
use Rattle.bl_build.specs.BuildStages.{without_image}
use Rattle.bl_build.specs.WeightStages.{compiling_by, counted_sources, hardening_by}
use Rattle.bl_build.specs.StageAnswers.{hardened_in}
use Rattle.bl_job.specs.WorkAnswers.{contents_in}
use Rattle.bl_build.proofs.BuildLemmas.{still_refused}
use Rattle.bl_build.proofs.harden.compile_hardened_by.Goals as goal

pub returns-in_ok-protect_least-in-Ok : goal.returns-in_ok-protect_least-in-Ok
returns-in_ok-protect_least-in-Ok c =
    let judged = c.in-Ok.ensures in
    (record { program = c.in-Ok.program; image = judged.0 }, judged.1, c.in_ok-protect_least-in-Ok.ensures)

pub returns-in-Err : goal.returns-in-Err
returns-in-Err c =
    let words = map (λ (word : Bor (List ℕ)). word.now) c.args.words.now in
    still_refused (without_image compiling_by) hardening_by (λ (program : Program). program) hardened_in (counted_sources words (contents_in c.args.contents.items) c.args.counts.now) (λ refusal r. r) c.in-Err.error c.in-Err.ensures
