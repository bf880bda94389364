use Rattle.bl_graph.proofs.RangeLemmas.{in_range}
use Rattle.bl_graph.proofs.laws.in_range.Goals as goal

pub returns : goal.returns
returns c = λ program facts rules. in_range program facts rules
