use Rattle.std.proofs.Common.{◌+◌, length}
use Rattle.bl_flow.specs.SplitNetworks.{rows_in}
use Rattle.bl_flow.proofs.BlockingFlows.{Buffered, measure}
use Rattle.bl_flow.proofs.level_graph.next_augmenting_path.Given as goal

abbrev pub invariant-loop-at : goal.invariant-loop-at
invariant-loop-at l = Buffered l.split.links l.capacities l.levels (rows_in l.split) l.source (l.source + 1) l.passed l.trail l.count l.at (length l.split.rows)

abbrev pub decreases-loop-at : goal.decreases-loop-at
decreases-loop-at l = measure l.split.links l.capacities l.levels (rows_in l.split) l.source (l.source + 1) l.passed l.at (length l.split.rows)
