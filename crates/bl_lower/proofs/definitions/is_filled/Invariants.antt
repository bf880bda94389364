use Rattle.std.proofs.Common.{◌≡◌, drop}
use Rattle.bl_lower.specs.Trees.{is_filled}
use Rattle.bl_lower.proofs.definitions.is_filled.Given as goal

abbrev pub invariant-loop-byte : goal.invariant-loop-byte
invariant-loop-byte l = is_filled (drop l.byte-index l.bytes) ≡ is_filled l.bytes
