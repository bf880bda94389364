use Rattle.std.proofs.Common.{◌≡◌, None, replicate}
use Rattle.bl_graph.proofs.written.no_entries.Given as goal

abbrev pub invariant-loop-done : goal.invariant-loop-done
invariant-loop-done l = l.entries.items ≡ replicate l.done None
