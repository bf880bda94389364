use Rattle.bl_program.specs.Sites.{moved_by, sunk_by}
use Rattle.bl_graph.specs.UseLists.{AreBelow, ArePlacesBelow, LoadAt, OperandAt}
use Rattle.bl_graph.proofs.reads.uses_of.Given as goal

abbrev pub invariant-loop-at : goal.invariant-loop-at
invariant-loop-at l = record {
  loads : ArePlacesBelow (LoadAt l.commands) l.at l.loads;
  reads : AreBelow (OperandAt moved_by l.commands) l.at l.reads;
  sinks : AreBelow (OperandAt sunk_by l.commands) l.at l.sinks;
}
