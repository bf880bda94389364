use Rattle.bl_cut.proofs.MarkedGraphs.{graph_same}
use Rattle.bl_cut.proofs.laws.marks_leave_the_graph.Goals as goal

pub returns : goal.returns
returns c = λ program set graph is. graph_same set program graph is
