use Rattle.bl_wasm.specs.Values.{u32}
use Rattle.bl_labels.specs.Entries.{place}
use Rattle.bl_labels.specs.declared.labels.Place.{Place}
use Rattle.bl_code.specs.Laws.{u32_prefix_free}
use Rattle.bl_code.proofs.Places.{none_first, none_second, passes_none}
use Rattle.bl_labels.proofs.EntryForms.{place_at}
use Rattle.bl_labels.proofs.entry.read_place.Goals as goal

pub returns-in_err-function : goal.returns-in_err-function
returns-in_err-function c =
    passes_none place c.args.bytes.now c.args.at c.from_residual.result _ c.from_residual.ensures.1
    (none_first {F = u32} {S = λ (x : Place). u32 x.index} (λ (x : Place). x.function) c.args.bytes.now c.args.at c.in_err-function.ensures)

pub returns-in_err-index : goal.returns-in_err-index
returns-in_err-index c =
    passes_none place c.args.bytes.now c.args.at c.from_residual-in_err-index.result _ c.from_residual-in_err-index.ensures.1
    (none_second {F = u32} {S = u32} (λ (x : Place). x.function) (λ (x : Place). x.index) c.args.bytes.now c.args.at c.in_ok-function.next c.in_ok-function.function u32_prefix_free c.in_ok-function.ensures c.in_err-index.ensures)

pub returns : goal.returns
returns c = place_at c.args.bytes.now c.args.at c.in_ok-function.next c.in_ok-index.end c.in_ok-function.function c.in_ok-index.index c.in_ok-function.ensures c.in_ok-index.ensures
