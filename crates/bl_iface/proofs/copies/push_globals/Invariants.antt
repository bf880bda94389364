use Rattle.std.proofs.Common.{◌≡◌, ◌++◌, not, map, take}
use Rattle.std.specs.List.{filter}
use Rattle.bl_iface.specs.JoinedProgram.{is_result, moved_demand}
use Rattle.bl_iface.proofs.copies.push_globals.Given as goal

abbrev pub invariant-loop-demand : goal.invariant-loop-demand
invariant-loop-demand l = l.to ≡ l.initial.to ++ filter (λ one. not (is_result one)) (map (moved_demand l.shift) (take l.demand-index l.demands))
