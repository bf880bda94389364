use Rattle.std.proofs.Common.{Err, refl}
use Rattle.bl_job.proofs.StageLemmas.{told_as}
use Rattle.bl_build.specs.EntryStages.{FindingRefuses, finding, imaging, no_export}
use Rattle.bl_build.specs.StageAnswers.{found_in}
use Rattle.bl_build.proofs.BuildLemmas.{staged_behind}
use Rattle.bl_build.proofs.PreparedLemmas.{staged_first}
use Rattle.bl_build.proofs.entry.find_export.Goals as goal

pub returns-in-Err-clause-staged : goal.returns-in-Err-clause-staged
returns-in-Err-clause-staged c = staged_first imaging (finding c.args.export.now) found_in c.args.image.now c.in-Err.error c.in-Err.ensures

pub returns-in-None-clause-staged : goal.returns-in-None-clause-staged
returns-in-None-clause-staged c =
    staged_behind imaging (finding c.args.export.now) found_in c.args.image.now c.in-Ok.program (Err c.no_export.result) c.in-Ok.ensures
    (told_as no_export (FindingRefuses c.args.export.now c.in-Ok.program) (record { not_exported = c.in-None.ensures; is_refusal = refl }) c.no_export.result c.no_export.ensures)
