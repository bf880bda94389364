use Rattle.bl_ct.proofs.LabellingOrChain.{labelling_or_chain}
use Rattle.bl_ct.proofs.KnownRanges.{secrets_in_range}
use Rattle.bl_ct.proofs.laws.labelling_or_chain.Goals as goal

pub returns : goal.returns
returns c = λ program facts rules. labelling_or_chain program (secrets_in_range program facts rules)
