use Rattle.std.proofs.Common.{◌≡◌, ◌++◌, drop}
use Rattle.bl_labels.proofs.named.Indices.of.Given as goal

abbrev pub invariant-loop-index : goal.invariant-loop-index
invariant-loop-index l = l.indices ++ drop l.index-index l.list ≡ l.list
