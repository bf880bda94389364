use Rattle.std.proofs.Common.{◌-◌, ◌<◌}
use Rattle.bl_program.specs.Sites.{Among}
use Rattle.bl_graph.specs.UseLists.{AddsRow}
use Rattle.bl_graph.proofs.reads.push_row.Given as goal

abbrev pub invariant-loop-var : goal.invariant-loop-var
invariant-loop-var l = AddsRow (λ x. Among l.operands x × (x < l.bound)) l.at l.fn.uses l.uses

abbrev pub decreases-loop-var : goal.decreases-loop-var
decreases-loop-var l = 4294967296 - l.bound
