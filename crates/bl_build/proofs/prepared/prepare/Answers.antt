use Rattle.bl_build.specs.EntryStages.{finding, imaging, starting}
use Rattle.bl_build.specs.StageAnswers.{found_in, prepared_in}
use Rattle.bl_build.proofs.PreparedLemmas.{refused_before, staged_after}
use Rattle.bl_build.proofs.prepared.prepare.Goals as goal

pub returns-in-Err-clause-staged : goal.returns-in-Err-clause-staged
returns-in-Err-clause-staged c =
    refused_before imaging (finding c.args.export.now) (starting c.args.start.now) prepared_in c.args.image.now c.in-Err.error c.in-Err.ensures.staged

pub returns-in-Ok-clause-staged : goal.returns-in-Ok-clause-staged
returns-in-Ok-clause-staged c =
    staged_after imaging (finding c.args.export.now) (starting c.args.start.now) prepared_in c.args.image.now (found_in c.in-Ok.found) c.start_found.result
    c.in-Ok.ensures.staged c.start_found.ensures.staged
