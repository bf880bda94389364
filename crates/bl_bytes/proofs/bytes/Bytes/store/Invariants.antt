use Rattle.std.proofs.Common.{◌≡◌, ◌+◌, ◌-◌}
use Rattle.bl_base.specs.Bytes.{bytes_of}
use Rattle.bl_bytes.specs.Overlays.{overlay, stored}
use Rattle.bl_ops.specs.Access.{width_of}
use Rattle.bl_bytes.proofs.bytes.Bytes.store.Given as goal

abbrev pub invariant-loop-i : goal.invariant-loop-i
invariant-loop-i l = overlay (l.from + l.i) (bytes_of (width_of l.fn.kind - l.i) l.rest) l.self ≡ stored l.fn.kind l.from l.fn.value l.initial.self
