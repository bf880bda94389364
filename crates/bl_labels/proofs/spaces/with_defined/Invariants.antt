use Rattle.std.proofs.Common.{◌≡◌, ◌++◌, drop}
use Rattle.bl_labels.proofs.spaces.with_defined.Given as goal

abbrev pub invariant-loop-kind : goal.invariant-loop-kind
invariant-loop-kind l = l.functions ++ drop l.kind-index l.defined ≡ l.fn.imported ++ l.fn.defined
