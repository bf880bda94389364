use Rattle.std.proofs.Common.{◌∙◌, ap, sym, ◌<◌, length, arith, set, List}
use Rattle.std.proofs.lemmas.List.Edits.{map_over_more}
use Rattle.bl_wasm.specs.declared.instruction.Instr.{Instr}
use Rattle.bl_link.specs.IndexSpaces.{names}
use Rattle.bl_wasm.specs.IndexMaps.{renamed as renamed_of}
use Rattle.bl_link.proofs.rename.renamed.Goals as goal

pub loop-item-preserved : goal.loop-item-preserved
loop-item-preserved c =
    let below : c.loop-item.item-index < length c.args.items = omega (arith, c.loop-item-test.true, ap (λ (l : List Instr). length l) c.deref_mut-item-items.ensures.value, ap (λ (l : List Instr). length l) c.into_vec-cells.ensures) in
    ap (λ (item : Instr). set c.loop-item.item-items c.loop-item.item-index item) (c.rename.ensures ∙ ap (renamed_of (names c.args.spaces.now)) (sym c.item-item.is))
    ∙ map_over_more (renamed_of (names c.args.spaces.now)) c.args.items c.loop-item.item-items c.loop-item.item-index c.item-item.result below c.loop-item.invariant c.item-item.is
