use Rattle.std.proofs.Common.{arith}
use Rattle.std.proofs.Math.Nat.{pow-le-pow_right}
use Rattle.bl_validate.proofs.body.is_aligned.Goals as goal

pub returns-else-alignment-lt8 : goal.returns-else-alignment-lt8
returns-else-alignment-lt8 c =
    let more = pow-le-pow_right {n = 2} (omega arith) {i = 8} {j = c.args.alignment} c.if-alignment-lt8.false in
    (λ h. absurd (grind (arith, h)), λ h. absurd (omega (arith, more, h, c.ranges.width)))
