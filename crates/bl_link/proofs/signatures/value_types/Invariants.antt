use Rattle.std.proofs.Common.{◌≡◌, map, take}
use Rattle.bl_link.specs.Signatures.{value_of}
use Rattle.bl_link.proofs.signatures.value_types.Given as goal

abbrev pub invariant-loop-kind : goal.invariant-loop-kind
invariant-loop-kind l = l.values ≡ map value_of (take l.kind-index l.kinds)
