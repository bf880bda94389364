use Rattle.std.proofs.Common.{◌+◌, drop, arith, ◌∙◌, refl, sym, ap}
use Rattle.std.proofs.lemmas.List.{at_drop_all}
use Rattle.bl_bytes.specs.Overlays.{overlay}
use Rattle.bl_bytes.proofs.OverlayLemmas.{overlay_more, overlay_none}
use Rattle.bl_bytes.proofs.bytes.Bytes.overlay.Goals as goal

pub loop-i-preserved : goal.loop-i-preserved
loop-i-preserved c =
    ap (λ s. overlay (c.args.from + (c.loop-i.i + 1)) (drop (c.loop-i.i + 1) c.args.bytes.now) s) c.put.ensures
    ∙ overlay_more c.args.from c.loop-i.i _ c.args.bytes.now c.loop-i.self (omega arith) refl ∙ c.loop-i.invariant

pub returns : goal.returns
returns c =
    sym (at_drop_all (λ bytes. overlay (c.args.from + c.loop-i.i) bytes c.loop-i.self) c.args.bytes.now c.loop-i.i (omega arith) ∙ overlay_none (c.args.from + c.loop-i.i) c.loop-i.self)
    ∙ c.loop-i.invariant
