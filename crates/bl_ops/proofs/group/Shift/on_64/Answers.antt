use Rattle.std.proofs.Common.{w64, rules}
use Rattle.bl_ops.proofs.Shifts.{shr_s_from}
use Rattle.bl_ops.proofs.group.Shift.on_64.Goals as goal

pub returns-in-ShrS : goal.returns-in-ShrS
returns-in-ShrS c = rw c.in-ShrS.is (shr_s_from w64 c.args.a c.args.b _ _ (search rules) c.cast_signed.ensures c.cast_unsigned.ensures)
