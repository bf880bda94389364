use Rattle.bl_labels.proofs.FaultLemmas.{consistent}
use Rattle.bl_labels.proofs.NextLemmas.{once_found, twice_found}
use Rattle.bl_labels.proofs.section.labels_of.Goals as goal
use Rattle.std.proofs.Common.{◌∙◌, sym}

pub returns-then-is_some-clause-told : goal.returns-then-is_some-clause-told
returns-then-is_some-clause-told c =
    twice_found c.args.wasm.now c.args.wasm.now.customs c.as_slice-customs.result.now c.in-Some.place c.next_section-2.result c.as_slice-customs.ensures c.in-Some.ensures.found c.next_section-2.ensures.found
    (sym c.is_some.ensures ∙ c.if-is_some.true)

pub returns-clause-told : goal.returns-clause-told
returns-clause-told c =
    once_found c.args.wasm.now c.args.wasm.now.customs c.as_slice-customs.result.now c.in-Some.place c.index-customs-place.result c.as_slice.result.now c.labels_in.result c.next_section-2.result
    c.as_slice-customs.ensures c.in-Some.ensures.found c.next_section-2.ensures.none (sym c.is_some.ensures ∙ c.if-is_some.false) c.as_slice.ensures c.labels_in.ensures

pub returns-clause-consistent : goal.returns-clause-consistent
returns-clause-consistent c = consistent c.args.wasm.now c.as_slice.result.now c.labels_in.result c.labels_in.ensures
