use Rattle.bl_flow.proofs.AdjacencyCounts.{SumsTo}
use Rattle.bl_flow.proofs.rows.sums_of.Given as goal

abbrev pub invariant-loop-place : goal.invariant-loop-place
invariant-loop-place l = SumsTo l.fn.numbers.items l.place l.sum l.sums.items
