use Rattle.std.proofs.Common.{arith}
use Rattle.bl_code.proofs.Numbers.{int_one}
use Rattle.bl_code.proofs.values.read_i32.Goals as goal

pub returns-in-Some : goal.returns-in-Some
returns-in-Some c =
    rw c.from.ensures (int_one 32 c.args.bytes.now c.args.at c.in-Some.byte.now (grind arith) (grind arith) (grind arith) (grind arith))
