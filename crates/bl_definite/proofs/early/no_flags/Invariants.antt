use Rattle.std.proofs.Common.{◌≡◌, replicate, false}
use Rattle.bl_definite.proofs.early.no_flags.Given as goal

abbrev pub invariant-loop-done : goal.invariant-loop-done
invariant-loop-done l = l.flags.items ≡ replicate l.done false
