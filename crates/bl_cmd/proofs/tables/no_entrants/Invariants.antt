use Rattle.std.proofs.Common.{◌≡◌, replicate, None}
use Rattle.bl_cmd.proofs.tables.no_entrants.Given as goal

abbrev pub invariant-loop-done : goal.invariant-loop-done
invariant-loop-done l = l.entrants.items ≡ replicate l.done None
