use Rattle.bl_format.proofs.LengthLemmas.{two}
use Rattle.bl_format.proofs.definition.ParamDefWrite.spelled_length.Goals as goal

pub returns : goal.returns
returns c = two c.spelled_length-kind.ensures c.spelled_length.ensures c.saturating_add.ensures
