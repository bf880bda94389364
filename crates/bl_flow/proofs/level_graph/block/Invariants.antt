use Rattle.std.proofs.Common.{length, ◌+◌, ◌-◌, ◌*◌, ◌≤◌}
use Rattle.bl_flow.specs.Networks.{total_weight}
use Rattle.bl_flow.specs.Levels.{height}
use Rattle.bl_flow.proofs.Phases.{Phase}
use Rattle.bl_flow.proofs.level_graph.block.Given as goal

abbrev pub invariant-loop-count : goal.invariant-loop-count
invariant-loop-count g l = record {
  phase : Phase g.n l.split l.levels l.fn.amount l.fn.capacities l.capacities l.total l.passed;
  long : height l.levels (2 * l.split.nodes + 1) ≤ length l.trail;
}

abbrev pub decreases-loop-count : goal.decreases-loop-count
decreases-loop-count g l = total_weight g.n - l.total
