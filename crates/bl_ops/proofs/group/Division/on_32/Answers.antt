use Rattle.std.proofs.Common.{w32, rules, arith, ◌∙◌}
use Rattle.bl_ops.proofs.Signed.{rem_s_from}
use Rattle.bl_ops.proofs.group.Division.on_32.Goals as goal

pub returns-in-RemS : goal.returns-in-RemS
returns-in-RemS c =
    rw (c.in-RemS.is, ← c.low-a.ensures, ← c.low-b.ensures)
    (c.from-in-RemS.ensures ∙ rem_s_from w32 c.low-a.result c.low-b.result _ _ _ _ (search rules) (search rules) (omega arith) (search rules)
    c.cast_signed-signed_a.ensures c.cast_signed-signed_b.ensures c.wrapping_rem.ensures c.cast_unsigned-in-RemS.ensures)
