use Rattle.std.proofs.Common.{◌≡◌, drop}
use Rattle.bl_rob.specs.Machines.{has_pending}
use Rattle.bl_forward.specs.ForwardMachines.{found_from, found_in}
use Rattle.bl_forward.proofs.find.found_behind.Given as goal

abbrev pub invariant-loop-entry : goal.invariant-loop-entry
invariant-loop-entry l = record {
  pending : has_pending (drop l.entry-index l.entries) ≡ has_pending l.entries;
  so_far : found_from l.layout.parts.now l.from l.width (drop l.entry-index l.entries) l.found ≡ found_in l.layout.parts.now l.from l.width l.entries;
}
