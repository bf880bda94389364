use Rattle.std.proofs.Common.{◌≡◌, ◌+◌, drop}
use Rattle.bl_bytes.specs.Overlays.{overlay}
use Rattle.bl_bytes.proofs.bytes.Bytes.overlay.Given as goal

abbrev pub invariant-loop-i : goal.invariant-loop-i
invariant-loop-i l = overlay (l.from + l.i) (drop l.i l.bytes) l.self ≡ overlay l.from l.bytes l.initial.self
