use Rattle.bl_graph.proofs.RisingLists.{graph_one}
use Rattle.bl_graph.proofs.laws.one_graph.Goals as goal

pub returns : goal.returns
returns c = λ program one other a b. graph_one program one other a b
