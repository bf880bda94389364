use Rattle.std.proofs.Common.{arith}
use Rattle.bl_format.proofs.LengthLemmas.{three}
use Rattle.bl_format.proofs.definition.GlobalDefWrite.spelled_length.Goals as goal

pub returns : goal.returns
returns c = three c.spelled_length-kind.ensures c.spelled_length-label.ensures c.length_of_u64-first.ensures (omega (arith, c.saturating_add.ensures, c.saturating_add-2.ensures))
