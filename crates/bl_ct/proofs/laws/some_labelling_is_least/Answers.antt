use Rattle.bl_ct.proofs.LabellingOrChain.{assigns}
use Rattle.bl_ct.proofs.SecretTest.{is_tested, labelling}
use Rattle.bl_ct.proofs.laws.some_labelling_is_least.Goals as goal

pub returns : goal.returns
returns c = λ program. (labelling program, assigns program, is_tested program)
