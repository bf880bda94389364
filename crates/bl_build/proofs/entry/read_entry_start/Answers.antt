use Rattle.std.proofs.Common.{◌≡◌, ◌∙◌, ap}
use Rattle.std.proofs.lemmas.Option.{slice_get-get_or}
use Rattle.bl_build.specs.EntryStages.{kinds_of, pages_of}
use Rattle.bl_build.specs.StageAnswers.{defined_in, entry_in}
use Rattle.bl_build.proofs.EntryStageLemmas.{not_started}
use Rattle.bl_build.proofs.entry.read_entry_start.Goals as goal

pub returns-clause-staged : goal.returns-clause-staged
returns-clause-staged c =
    let entry = entry_in c.args.program.now c.args.function in
    let parts : c.parts.result.now ≡ c.args.program.now = c.parts.ensures.same ∙ c.program.ensures.same in
    let kinds = c.as_slice.ensures.value ∙ c.in_ok-kinds.ensures ∙ ap kinds_of c.definition.ensures in
    let pages = c.as_slice-2.ensures.value ∙ c.in_ok-pages.ensures ∙ ap pages_of parts in
    not_started entry c.args.bytes.now c.as_slice.result.now c.as_slice-2.result.now c.in-Err.error kinds pages c.in-Err.ensures.answer c.of_start.result c.of_start.ensures

pub returns-in-Ok-clause-fits : goal.returns-in-Ok-clause-fits
returns-in-Ok-clause-fits c =
    let parts : c.parts.result.now ≡ c.args.program.now = c.parts.ensures.same ∙ c.program.ensures.same in
    let kinds = c.as_slice.ensures.value ∙ c.in_ok-kinds.ensures ∙ ap kinds_of c.definition.ensures in
    let pages = c.as_slice-2.ensures.value ∙ c.in_ok-pages.ensures ∙ ap pages_of parts in
    record {
      defined = defined_in c.args.program.now c.args.function;
      exists = slice_get-get_or c.args.program.now.functions c.args.function _ c.requires;
      fits = rw (kinds, pages) at c.in-Ok.ensures.fits;
    }
