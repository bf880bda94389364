use Rattle.std.proofs.Common.{Err}
use Rattle.bl_build.specs.EntryStages.{imaging}
use Rattle.bl_build.specs.TraceStages.{program_speculating, starting_other}
use Rattle.bl_build.specs.StageAnswers.{speculated_in, twinned_in}
use Rattle.bl_build.proofs.PreparedLemmas.{refused_before, staged_after}
use Rattle.bl_build.proofs.twins.prepare_twins.Goals as goal

pub returns-in-Err-clause-staged : goal.returns-in-Err-clause-staged
returns-in-Err-clause-staged c =
    refused_before imaging (program_speculating c.args.export.now c.args.trace.now c.args.start.now) (starting_other c.args.other.now) twinned_in c.args.image.now
    c.in-Err.error c.in-Err.ensures.staged

pub returns-in-Err-read_entry_start-clause-staged : goal.returns-in-Err-read_entry_start-clause-staged
returns-in-Err-read_entry_start-clause-staged c =
    staged_after imaging (program_speculating c.args.export.now c.args.trace.now c.args.start.now) (starting_other c.args.other.now) twinned_in c.args.image.now
    (speculated_in c.in-Ok.speculation) (Err c.in-Err-read_entry_start.error) c.in-Ok.ensures.staged c.in-Err-read_entry_start.ensures.staged
