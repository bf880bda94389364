use Rattle.std.proofs.Common.{◌≡◌, take}
use Rattle.bl_lower.proofs.definitions.value_types.Given as goal

abbrev pub invariant-loop-kind : goal.invariant-loop-kind
invariant-loop-kind l = l.all ≡ take l.kind-index l.kinds
