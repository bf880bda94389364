use Rattle.bl_graph.proofs.ChainLemmas.{none_lighter}
use Rattle.bl_transient.proofs.ChainsMet.{chain_met}
use Rattle.bl_transient.proofs.laws.certified_is_lightest.Goals as goal

pub returns : goal.returns
returns c = λ program set other certificate is certifies sites passes. none_lighter program is set certificate certifies other sites (chain_met program other passes)
