use Rattle.bl_program.specs.Sites.{Writes}
use Rattle.bl_graph.specs.UseLists.{AreBelow}
use Rattle.bl_graph.proofs.writes.push_writes.Given as goal

abbrev pub invariant-loop-at : goal.invariant-loop-at
invariant-loop-at l = AreBelow (Writes l.running.parts.now) l.at l.writes
