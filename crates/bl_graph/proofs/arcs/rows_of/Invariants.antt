use Rattle.std.proofs.Common.{◌≡◌, length, take}
use Rattle.bl_graph.specs.Arcs.{RowsOf, rows_in}
use Rattle.bl_graph.proofs.arcs.rows_of.Given as goal

abbrev pub invariant-loop-arc : goal.invariant-loop-arc
invariant-loop-arc l = record {
  places : length l.rows.items ≡ l.count;
  rows : RowsOf (take l.arc-index l.arcs) (rows_in l.rows.items);
}
