use Rattle.std.proofs.Common.{◌≡◌, ◌++◌, drop}
use Rattle.bl_transient.specs.Reachability.{roots_from}
use Rattle.bl_transient.proofs.moves.roots_of.Given as goal

abbrev pub invariant-loop-load : goal.invariant-loop-load
invariant-loop-load l = l.roots.items ++ roots_from l.written (drop l.load-index l.loads) ≡ l.transient ++ roots_from l.written l.loads
