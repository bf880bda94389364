use Rattle.std.proofs.Common.{◌≡◌, drop}
use Rattle.bl_rob.specs.Machines.{has_guard}
use Rattle.bl_rob.proofs.visible.has_guard.Given as goal

abbrev pub invariant-loop-entry : goal.invariant-loop-entry
invariant-loop-entry l = has_guard (drop l.entry-index l.entries) ≡ has_guard l.entries
