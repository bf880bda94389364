use Rattle.std.proofs.Common.{arith}
use Rattle.bl_validate.proofs.verdict.first_without_typing.Goals as goal

pub returns-then-not-branch : goal.returns-then-not-branch
returns-then-not-branch c = record {
  within = grind (arith, c.loop-number-test.true, c.as_slice-index-items.ensures);
  untyped = λ typed. let b = c.in_ok-is_typed.ensures.1 typed in cc (b, c.if-not-branch.true);
  least = λ other below. c.loop-number.invariant other below;
}
