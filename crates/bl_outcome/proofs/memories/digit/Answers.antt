use Rattle.std.proofs.Common.{◌≡◌, ◌+◌, ◌-◌, ◌∷◌, [], ◌∙◌, ap, arith}
use Rattle.bl_outcome.proofs.MemoryTexts.{high_digit, low_digit}
use Rattle.bl_outcome.proofs.memories.digit.Goals as goal

pub returns-then-number-lt10 : goal.returns-then-number-lt10
returns-then-number-lt10 c = low_digit c.args.number (omega arith)

pub returns-else-number-lt10 : goal.returns-else-number-lt10
returns-else-number-lt10 c =
    let same : 87 + c.args.number ≡ 97 + (c.args.number - 10) = omega arith in
    high_digit c.args.number (omega arith) (omega arith) ∙ ap (λ d. d ∷ []) same
