use Rattle.std.proofs.Common.{◌≡◌}
use Rattle.bl_rob.specs.CallResults.{shown}
use Rattle.bl_rob.proofs.ObservationLemmas.{SoFar}
use Rattle.bl_rob.proofs.rob.Rob.observe.Given as goal

abbrev pub invariant-loop-i : goal.invariant-loop-i
invariant-loop-i g l = record {
  same : l.self.program ≡ l.initial.self.program;
  so_far : SoFar (g.P.Loads.rules g.row.W l.initial.self.program) l.directives (shown l.initial.self.machine) l.i l.made (shown l.self.machine);
}
