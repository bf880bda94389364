use Rattle.std.proofs.Common.{sym, ◌∙◌, ap}
use Rattle.bl_text.specs.Digits.{decimal_below}
use Rattle.bl_trace.specs.Lines.{argument_of, words_of}
use Rattle.bl_trace.proofs.Operands.{argument_of_rest}
use Rattle.bl_trace.proofs.line.read_argument.Goals as goal

pub returns : goal.returns
returns c =
    c.read_decimal.ensures.number
    ∙ ap (λ limit. decimal_below limit c.args.operands.now) c.max_of.ensures
    ∙ sym (argument_of_rest c.in_ok-kind.kind c.args.operands.now)
    ∙ ap (λ kind. argument_of kind (words_of c.args.operands.now)) (sym c.in_ok-kind.was)
