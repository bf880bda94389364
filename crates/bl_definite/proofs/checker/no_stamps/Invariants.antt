use Rattle.std.proofs.Common.{◌≡◌, replicate, None}
use Rattle.bl_definite.proofs.checker.no_stamps.Given as goal

abbrev pub invariant-loop-done : goal.invariant-loop-done
invariant-loop-done l = l.stamps.items ≡ replicate l.done None
