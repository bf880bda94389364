use Rattle.std.proofs.Common.{◌+◌, ◌-◌, ◌/◌, ◌∙◌, ap, sym, arith}
use Rattle.bl_base.specs.Bytes.{bytes_of}
use Rattle.bl_bytes.specs.Overlays.{overlay}
use Rattle.bl_ops.specs.Access.{width_of}
use Rattle.bl_bytes.proofs.OverlayLemmas.{store_more, store_none}
use Rattle.bl_bytes.proofs.bytes.Bytes.store.Goals as goal

pub loop-i-preserved : goal.loop-i-preserved
loop-i-preserved c =
    ap (λ s. overlay (c.args.from + (c.loop-i.i + 1)) (bytes_of (width_of c.args.kind - (c.loop-i.i + 1)) (c.loop-i.rest / 256)) s) c.put.ensures
    ∙ store_more c.args.from c.loop-i.i (width_of c.args.kind) c.loop-i.rest c.loop-i.self (omega arith) ∙ c.loop-i.invariant

pub returns : goal.returns
returns c = sym (store_none c.args.from c.loop-i.i (width_of c.args.kind) c.loop-i.rest c.loop-i.self (omega arith)) ∙ c.loop-i.invariant
