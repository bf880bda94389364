use Rattle.bl_transient.proofs.ChainsMet.{chain_met, passes_where_met}
use Rattle.bl_transient.proofs.laws.passing_by_chains.Goals as goal

pub returns : goal.returns
returns c = λ program set. (chain_met program set, passes_where_met program set)
