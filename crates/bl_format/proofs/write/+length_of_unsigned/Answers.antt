use Rattle.std.proofs.Common.{arith}
use Rattle.bl_format.proofs.LengthLemmas.{large_long, small_long}
use Rattle.bl_format.proofs.write.+length_of_unsigned.Goals as goal

pub returns-then-number-lt128 : goal.returns-then-number-lt128
returns-then-number-lt128 t c = λ width fits. small_long c.args.number width c.if-number-lt128.true fits

pub returns : goal.returns
returns t c = large_long c.args.number c.length_of_unsigned.result c.saturating_add.result (omega (arith, c.if-number-lt128.false)) c.length_of_unsigned.ensures c.saturating_add.ensures
