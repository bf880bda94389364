use Rattle.std.proofs.Common.{◌≡◌}
use Rattle.bl_program.specs.Layout.{entry_of}
use Rattle.bl_program.specs.Sites.{Writes}
use Rattle.bl_graph.specs.UseLists.{AreBelow}
use Rattle.bl_graph.proofs.writes.writes_of.Given as goal

abbrev pub invariant-loop-number : goal.invariant-loop-number
invariant-loop-number l = record {
  below : AreBelow (Writes l.fn.program) l.entry l.writes;
  entry : l.entry ≡ entry_of l.fn.program l.number;
}
