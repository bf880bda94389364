use Rattle.std.proofs.Common.{◌≡◌, ◌++◌, drop}
use Rattle.bl_transient.specs.Reachability.{stable_reads}
use Rattle.bl_transient.proofs.bad.push_reads.Given as goal

abbrev pub invariant-loop-read : goal.invariant-loop-read
invariant-loop-read l = l.uses.items ++ stable_reads l.written l.stable (drop l.read-index l.reads) ≡ l.fn.uses.items ++ stable_reads l.written l.stable l.reads
