use Rattle.std.proofs.Common.{sym, subst, ◌∙◌, refl}
use Rattle.std.specs.Prelude.{Err}
use Rattle.bl_base.specs.Fits.{Fits}
use Rattle.bl_trace.specs.StartFiles.{answer_of, IsAnswer}
use Rattle.bl_build.specs.InvocationStages.{InvokingRefuses, not_exported}
use Rattle.bl_build.specs.EntryStages.{no_export}
use Rattle.bl_job.proofs.StageLemmas.{told_as}
use Rattle.bl_build.specs.StageAnswers.{invoked_in}
use Rattle.bl_build.proofs.InvocationLemmas.{exported_exists, start_of_type, start_refused}
use Rattle.bl_build.proofs.invocation.prepare_invocation.Goals as goal

pub signature-kind-requires-clause-exists : goal.signature-kind-requires-clause-exists
signature-kind-requires-clause-exists c = exported_exists _ c.args.export.now _ c.in-Some.function c.requires.exports (sym c.in-Some.ensures)

pub returns-in_default-clause-invoked : goal.returns-in_default-clause-invoked
returns-in_default-clause-invoked c =
    told_as no_export (InvokingRefuses c.args.export.now c.args.bytes.now c.args.tree.now) (not_exported (sym c.in_default.ensures) refl) c.no_export.result c.no_export.ensures

pub returns-clause-invoked : goal.returns-clause-invoked
returns-clause-invoked c =
    let tree = c.args.tree.now in
    let bytes = c.args.bytes.now in
    let sizes = c.as_slice-2.ensures.value ∙ c.in_ok-sizes.ensures in
    let by_type = subst (λ params. IsAnswer (answer_of params c.as_slice-2.result.now bytes) (Err c.in-Err.error)) c.as_slice.ensures c.in-Err.ensures.answer in
    let answer = subst (λ pages. IsAnswer (answer_of c.signature-kind.result.now.params pages bytes) (Err c.in-Err.error)) sizes by_type in
    let refused = start_refused (invoked_in tree) tree c.args.export.now bytes c.in-Some.function c.signature-kind.result.now c.in-Err.error (sym c.in-Some.ensures) c.signature-kind.ensures answer c.of_start.result c.of_start.ensures in
    refused

pub returns-in-Ok-clause-fits : goal.returns-in-Ok-clause-fits
returns-in-Ok-clause-fits c =
    let sizes = c.as_slice-2.ensures.value ∙ c.in_ok-sizes.ensures in
    let by_type = subst (λ params. Fits params c.as_slice-2.result.now c.in-Ok.start) c.as_slice.ensures c.in-Ok.ensures.fits in
    start_of_type c.args.tree.now c.in-Some.function c.signature-kind.result.now c.in-Ok.start c.signature-kind.ensures
    (subst (λ pages. Fits c.signature-kind.result.now.params pages c.in-Ok.start) sizes by_type)
