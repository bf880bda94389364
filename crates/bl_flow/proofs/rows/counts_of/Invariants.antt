use Rattle.bl_flow.specs.AdjacencyLists.{AreCounts}
use Rattle.bl_flow.proofs.rows.counts_of.Given as goal

abbrev pub invariant-loop-k : goal.invariant-loop-k
invariant-loop-k l = AreCounts l.links l.parts l.k l.counts.items
