use Rattle.std.proofs.Common.{◌≡◌, ◌++◌, map, take}
use Rattle.std.specs.List.{filter}
use Rattle.bl_iface.specs.JoinedProgram.{is_result, moved_demand}
use Rattle.bl_iface.proofs.copies.push_results.Given as goal

abbrev pub invariant-loop-demand : goal.invariant-loop-demand
invariant-loop-demand l = l.to ≡ l.initial.to ++ filter is_result (map (moved_demand l.shift) (take l.demand-index l.demands))
