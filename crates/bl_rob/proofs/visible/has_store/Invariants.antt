use Rattle.std.proofs.Common.{◌≡◌, drop}
use Rattle.bl_rob.specs.Machines.{has_store}
use Rattle.bl_rob.proofs.visible.has_store.Given as goal

abbrev pub invariant-loop-entry : goal.invariant-loop-entry
invariant-loop-entry l = has_store (drop l.entry-index l.entries) ≡ has_store l.entries
