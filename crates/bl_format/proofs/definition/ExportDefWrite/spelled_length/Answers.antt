use Rattle.bl_format.proofs.LengthLemmas.{two}
use Rattle.bl_format.proofs.definition.ExportDefWrite.spelled_length.Goals as goal

pub returns : goal.returns
returns c = two c.spelled_length-name.ensures c.length_of_u32.ensures c.saturating_add.ensures
