use Rattle.std.proofs.Common.{◌≡◌, get_or, arith, ap, ◌∙◌}
use Rattle.std.specs.Char.{digit_value}
use Rattle.bl_text.proofs.Decimals.{too_much}
use Rattle.bl_text.proofs.digits.read_decimal.Goals as goal

pub returns-then-next-from-clause-number : goal.returns-then-next-from-clause-number
returns-then-next-from-clause-number c =
    let is : c.in_ok-digit.digit ≡ digit_value (get_or c.args.word.now c.loop-byte.byte-index 0) = c.in_ok-digit.ensures.value.1 ∙ ap digit_value c.from.ensures in
    too_much c.args.word.now c.loop-byte.byte-index c.loop-byte.value c.in_ok-digit.digit c.args.max (omega arith)
    c.loop-byte.invariant.number is (omega arith)
