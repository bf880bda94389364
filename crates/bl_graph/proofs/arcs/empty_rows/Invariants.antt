use Rattle.std.proofs.Common.{◌≡◌, [], replicate}
use Rattle.bl_graph.specs.Arcs.{rows_in}
use Rattle.bl_graph.proofs.arcs.empty_rows.Given as goal

abbrev pub invariant-loop : goal.invariant-loop
invariant-loop l = rows_in l.rows.items ≡ replicate l.counter []
