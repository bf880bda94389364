use Rattle.std.proofs.Common.{◌≡◌, ◌∙◌, sym, ap, ◌+◌, drop, ◌∷◌}
use Rattle.std.proofs.lemmas.List.{drop_more}
use Rattle.bl_wasm.specs.declared.module.ElementSegment.{ElementSegment}
use Rattle.bl_link.proofs.SlotLemmas.{slots_fit_more, slots_whole_more}
use Rattle.bl_link.proofs.segments.with_elements.Goals as goal

pub loop-segment-preserved : goal.loop-segment-preserved
loop-segment-preserved c =
    let split : drop c.loop-segment.segment-index c.args.segments.now ≡ c.segment-item.result ∷ drop (c.loop-segment.segment-index + 1) c.args.segments.now =
    drop_more c.args.segments.now c.loop-segment.segment-index c.segment-item.result c.loop-segment-test.true ∙ ap (λ (s : ElementSegment). s ∷ drop (c.loop-segment.segment-index + 1) c.args.segments.now) (sym c.segment-item.is) in
    record {
      fits = slots_fit_more c.args.globals.now c.args.spaces.now c.loop-segment.cells.items c.put_element.new.tables.items _ _ c.segment-item.result split c.put_element.ensures c.loop-segment.invariant.fits;
      whole = slots_whole_more c.args.globals.now c.args.spaces.now c.loop-segment.cells.items c.put_element.new.tables.items _ _ _ c.segment-item.result split c.put_element.ensures c.loop-segment.invariant.whole;
    }
