use Rattle.bl_graph.proofs.ChainExclusion.{least}
use Rattle.bl_ct.proofs.laws.secret_is_least.Goals as goal

pub returns : goal.returns
returns c = least
