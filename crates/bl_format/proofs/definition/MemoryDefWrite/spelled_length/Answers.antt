use Rattle.std.proofs.Common.{arith}
use Rattle.bl_format.proofs.LengthLemmas.{four}
use Rattle.bl_format.proofs.definition.MemoryDefWrite.spelled_length.Goals as goal

pub returns : goal.returns
returns c =
    four c.length_of_u32-pages.ensures c.length_of_u32-reserve.ensures c.spelled_length-label.ensures c.length_of_numbered-rows.ensures
    (omega (arith, c.saturating_add.ensures, c.saturating_add-2.ensures, c.saturating_add-3.ensures))
