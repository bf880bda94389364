use Rattle.std.proofs.Common.{◌≡◌, ◌++◌, drop}
use Rattle.bl_link.specs.IndexSpaces.{of_kind}
use Rattle.bl_link.proofs.spaces.of_kind.Given as goal

abbrev pub invariant-loop-value : goal.invariant-loop-value
invariant-loop-value l = l.numbers ++ of_kind l.kind (drop l.value-index l.values) ≡ of_kind l.kind l.values
