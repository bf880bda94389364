use Rattle.std.proofs.Common.{map}
use Rattle.bl_graph.proofs.ChainExclusion.{chain_not}
use Rattle.bl_ct.proofs.laws.chains_exclude_labellings.Goals as goal

pub returns : goal.returns
returns c = λ program chain h constant.
    chain_not program constant.0 constant.1 chain.origin (map (λ s. s.0) chain.through) chain.end.0 h
