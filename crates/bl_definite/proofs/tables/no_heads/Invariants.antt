use Rattle.std.proofs.Common.{◌≡◌, replicate}
use Rattle.bl_definite.proofs.tables.no_heads.Given as goal

abbrev pub invariant-loop-done : goal.invariant-loop-done
invariant-loop-done l = l.heads.items ≡ replicate l.done 0
