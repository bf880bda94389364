use Rattle.std.proofs.Common.{◌≡◌, ◌++◌, drop}
use Rattle.bl_transient.specs.Reachability.{stable_loads}
use Rattle.bl_transient.proofs.bad.push_loads.Given as goal

abbrev pub invariant-loop-load : goal.invariant-loop-load
invariant-loop-load l = l.uses.items ++ stable_loads l.written l.stable (drop l.load-index l.loads) ≡ l.fn.uses.items ++ stable_loads l.written l.stable l.loads
