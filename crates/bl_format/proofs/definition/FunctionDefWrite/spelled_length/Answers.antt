use Rattle.std.proofs.Common.{arith}
use Rattle.bl_format.proofs.LengthLemmas.{four}
use Rattle.bl_format.proofs.definition.FunctionDefWrite.spelled_length.Goals as goal

pub returns : goal.returns
returns c =
    four c.spelled_length-params.ensures c.spelled_length-results.ensures c.length_of_u32-vars.ensures c.length_of_u32-length.ensures
    (omega (arith, c.saturating_add.ensures, c.saturating_add-2.ensures, c.saturating_add-3.ensures))
