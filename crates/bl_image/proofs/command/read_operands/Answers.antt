use Rattle.std.proofs.Common.{◌≡◌, drop, arith}
use Rattle.bl_format.specs.Image.{operand}
use Rattle.bl_image.specs.ReaderAnswers.{operands_of}
use Rattle.bl_image.proofs.ReaderLemmas.{fails, finds_as}
use Rattle.bl_format.proofs.OperandLists.{three}
use Rattle.bl_image.proofs.Operands.{one_operand, no_operand, two, two_operands, no_two_operands, three_operands, no_three_operands}
use Rattle.bl_image.proofs.command.read_operands.Goals as goal

pub returns-in_err-a-in-1 : goal.returns-in_err-a-in-1
returns-in_err-a-in-1 c =
    rw c.in-1.is (fails operand (operands_of 1) c.args.bytes.now c.args.at c.args.at c.from_residual.result _ c.from_residual.ensures.1 (no_operand (drop c.args.at c.args.bytes.now)) c.in_err-a-in-1.ensures)

pub returns-in_ok-a-in-1 : goal.returns-in_ok-a-in-1
returns-in_ok-a-in-1 c =
    let r = c.in_ok-a-in-1 in
    (r.ensures.0, rw c.in-1.is (one_operand (drop c.args.at c.args.bytes.now) (drop r.place c.args.bytes.now) r.a r.ensures.1))

pub returns-in_err-a-in-2 : goal.returns-in_err-a-in-2
returns-in_err-a-in-2 c =
    rw c.in-2.is (fails two (operands_of 2) c.args.bytes.now c.args.at c.args.at c.from_residual-in_err-a-in-2.result _ c.from_residual-in_err-a-in-2.ensures.1 (no_two_operands (drop c.args.at c.args.bytes.now)) c.in_err-a-in-2.ensures)

pub returns-in_ok-a-in-2 : goal.returns-in_ok-a-in-2
returns-in_ok-a-in-2 c =
    let r = c.in_ok-a-in-2 in
    (r.ensures.0, rw c.in-2.is (two_operands (drop c.args.at c.args.bytes.now) (drop r.place c.args.bytes.now) r.a r.b r.ensures.1))

pub returns-in_default : goal.returns-in_default
returns-in_default c =
    let is : c.args.count ≡ 3 = omega arith in
    rw is (finds_as three (operands_of 3) c.args.bytes.now c.args.at c.args.at c.find-in_default.result (λ x m. three_operands (drop c.args.at c.args.bytes.now) m x) (no_three_operands (drop c.args.at c.args.bytes.now)) c.find-in_default.ensures)
