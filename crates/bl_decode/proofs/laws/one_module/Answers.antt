use Rattle.bl_decode.proofs.Trees.{one_spelled}
use Rattle.bl_decode.proofs.laws.one_module.Goals as goal

pub returns : goal.returns
returns c = one_spelled
