use Rattle.std.proofs.Common.{arith}
use Rattle.bl_format.proofs.LengthLemmas.{four}
use Rattle.bl_format.proofs.image.length_of_definitions.Goals as goal

pub returns : goal.returns
returns c =
    four c.spelled_length-globals.ensures c.spelled_length-memories.ensures c.spelled_length-functions.ensures c.length_of_exports-exports.ensures
    (omega (arith, c.saturating_add.ensures, c.saturating_add-2.ensures, c.saturating_add-3.ensures))
