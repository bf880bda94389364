use Rattle.std.proofs.Common.{arith}
use Rattle.bl_format.proofs.write.length_of_u64.Goals as goal

pub returns : goal.returns
returns c = c.length_of_unsigned.ensures 64 (omega (arith, c.ranges.number))
