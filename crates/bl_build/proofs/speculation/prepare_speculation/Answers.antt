use Rattle.std.proofs.Common.{Err, Ok, refl}
use Rattle.bl_job.specs.Stages.{chain}
use Rattle.bl_build.specs.EntryStages.{finding, imaging}
use Rattle.bl_build.specs.TraceStages.{starting_traced, tracing}
use Rattle.bl_build.specs.StageAnswers.{found_in, prepared_in, speculated_in}
use Rattle.bl_build.proofs.BuildLemmas.{staged_behind}
use Rattle.bl_build.proofs.PreparedLemmas.{refused_before, staged_after, staged_first}
use Rattle.bl_build.proofs.speculation.prepare_speculation.Goals as goal

pub returns-in-Err-clause-staged : goal.returns-in-Err-clause-staged
returns-in-Err-clause-staged c =
    refused_before imaging (finding c.args.export.now) (chain (tracing c.args.trace.now) (starting_traced c.args.start.now)) speculated_in c.args.image.now
    c.in-Err.error c.in-Err.ensures.staged

pub returns-in-Err-read_directives-clause-staged : goal.returns-in-Err-read_directives-clause-staged
returns-in-Err-read_directives-clause-staged c =
    staged_after imaging (finding c.args.export.now) (chain (tracing c.args.trace.now) (starting_traced c.args.start.now)) speculated_in c.args.image.now
    (found_in c.in-Ok.found) (Err c.in-Err-read_directives.error) c.in-Ok.ensures.staged
    (staged_first (tracing c.args.trace.now) (starting_traced c.args.start.now) speculated_in (found_in c.in-Ok.found) c.in-Err-read_directives.error c.in-Err-read_directives.ensures)

pub returns-in-Err-start_found-clause-staged : goal.returns-in-Err-start_found-clause-staged
returns-in-Err-start_found-clause-staged c =
    let traced = c.in-Ok-read_directives.ensures in
    staged_after imaging (finding c.args.export.now) (chain (tracing c.args.trace.now) (starting_traced c.args.start.now)) speculated_in c.args.image.now
    (found_in c.in-Ok.found) (Err c.in-Err-start_found.error) c.in-Ok.ensures.staged
    (staged_behind (tracing c.args.trace.now) (starting_traced c.args.start.now) speculated_in (found_in c.in-Ok.found) (record { entry = found_in c.in-Ok.found; directives = c.in-Ok-read_directives.directives })
    (Err c.in-Err-start_found.error) (record { same_entry = refl; few = traced.0; read = traced.1 }) c.in-Err-start_found.ensures.staged)

pub returns-in-Ok-start_found-clause-staged : goal.returns-in-Ok-start_found-clause-staged
returns-in-Ok-start_found-clause-staged c =
    let traced = c.in-Ok-read_directives.ensures in
    staged_after imaging (finding c.args.export.now) (chain (tracing c.args.trace.now) (starting_traced c.args.start.now)) speculated_in c.args.image.now
    (found_in c.in-Ok.found) (Ok (record { prepared = c.in-Ok-start_found.prepared; directives = c.in-Ok-read_directives.directives })) c.in-Ok.ensures.staged (
      record { entry = found_in c.in-Ok.found; directives = c.in-Ok-read_directives.directives },
      record { same_entry = refl; few = traced.0; read = traced.1 },
      (prepared_in c.in-Ok-start_found.prepared, c.in-Ok-start_found.ensures.staged, refl),
    )
