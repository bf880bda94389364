use Rattle.std.proofs.Common.{◌≡◌, ◌++◌, drop}
use Rattle.bl_labels.proofs.named.Places.of.Given as goal

abbrev pub invariant-loop-place : goal.invariant-loop-place
invariant-loop-place l = l.places ++ drop l.place-index l.list ≡ l.list
