use Rattle.std.proofs.Common.{drop, sym, ◌∙◌}
use Rattle.bl_program.specs.declared.command.Operand.TheVariants.{Var, Const}
use Rattle.bl_leb.specs.Grammar.{byte}
use Rattle.bl_format.specs.Image.{operand, operand_code, operand_fields}
use Rattle.bl_image.proofs.ReaderLemmas.{fails, none_head, begins_coded}
use Rattle.bl_image.proofs.CodeCases.{is_var, is_const}
use Rattle.bl_image.proofs.value.OperandFind.find.Goals as goal

pub returns-in_err-code : goal.returns-in_err-code
returns-in_err-code c =
    fails byte operand c.args.bytes.now c.args.at c.args.at c.from_residual.result _ c.from_residual.ensures.1
    (none_head byte operand_code operand_fields (drop c.args.at c.args.bytes.now)) c.in_err-code.ensures

pub returns-in_ok-number-in-0 : goal.returns-in_ok-number-in-0
returns-in_ok-number-in-0 c = (
  c.in_ok-number-in-0.ensures.0,
  begins_coded operand_code operand_fields (λ x. Var (record { 0 = x })) c.in_ok-code.code (drop c.args.at c.args.bytes.now) (drop c.in_ok-code.place c.args.bytes.now) (drop c.in_ok-number-in-0.end c.args.bytes.now) c.in_ok-number-in-0.number (sym c.in-0.is) (λ y e. is_var y (e ∙ c.in-0.is)) c.in_ok-code.ensures.1 c.in_ok-number-in-0.ensures.1,
)

pub returns-in_ok-number-in-1 : goal.returns-in_ok-number-in-1
returns-in_ok-number-in-1 c = (
  c.in_ok-number-in-1.ensures.0,
  begins_coded operand_code operand_fields Const c.in_ok-code.code (drop c.args.at c.args.bytes.now) (drop c.in_ok-code.place c.args.bytes.now) (drop c.in_ok-number-in-1.end c.args.bytes.now) c.in_ok-number-in-1.number (sym c.in-1.is) (λ y e. is_const y (e ∙ c.in-1.is)) c.in_ok-code.ensures.1 c.in_ok-number-in-1.ensures.1,
)
