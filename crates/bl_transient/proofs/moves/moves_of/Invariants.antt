use Rattle.std.proofs.Common.{◌≡◌, ◌++◌, drop}
use Rattle.bl_transient.specs.Reachability.{moves_from}
use Rattle.bl_transient.proofs.moves.moves_of.Given as goal

abbrev pub invariant-loop-read : goal.invariant-loop-read
invariant-loop-read l = l.moves.items ++ moves_from l.written (drop l.read-index l.reads) ≡ moves_from l.written l.reads
