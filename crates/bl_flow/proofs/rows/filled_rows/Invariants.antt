use Rattle.std.proofs.Common.{length}
use Rattle.bl_flow.proofs.AdjacencyCounts.{Filled}
use Rattle.bl_flow.proofs.rows.filled_rows.Given as goal

abbrev pub invariant-loop-k : goal.invariant-loop-k
invariant-loop-k l = Filled l.links (length l.fn.ends.items) l.k l.offsets.items l.entries.items
