use Rattle.std.proofs.Common.{w32, rules, ◌∙◌}
use Rattle.bl_ops.proofs.Shifts.{shr_s_from}
use Rattle.bl_ops.proofs.group.Shift.on_32.Goals as goal

pub returns-in-ShrS : goal.returns-in-ShrS
returns-in-ShrS c =
    rw (c.in-ShrS.is, ← c.low-a.ensures, ← c.low.ensures)
    (c.from-in-ShrS.ensures ∙ shr_s_from w32 c.low-a.result c.low.result _ _ (search rules) c.cast_signed.ensures c.cast_unsigned.ensures)
