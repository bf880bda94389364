use Rattle.std.proofs.Common.{◌≡◌, arith}
use Rattle.std.proofs.lemmas.Result.{on_ok_weaker}
use Rattle.bl_leb.specs.Grammar.{◌⨾◌, nothing}
use Rattle.bl_format.specs.Image.{operand}
use Rattle.bl_format.proofs.WriterLemmas.{adds_as}
use Rattle.bl_format.proofs.OperandLists.{last, second_part, three_last}
use Rattle.bl_format.proofs.command.write_operands.Goals as goal

pub returns-in-1 : goal.returns-in-1
returns-in-1 c = rw c.in-1.is (on_ok_weaker c.write.result (adds_as (last (operand c.args.a))) c.write.ensures)

pub returns-in-2 : goal.returns-in-2
returns-in-2 c =
    let a = operand c.args.a in
    let b = operand c.args.b in
    rw c.in-2.is (on_ok_weaker c.write-in-2.result (adds_as (λ t. second_part a b (b ⨾ nothing) t (last b))) c.write-in-2.ensures)

pub returns-in_default : goal.returns-in_default
returns-in_default c =
    let is : c.args.count ≡ 3 = omega arith in
    rw is (on_ok_weaker c.write-in_default.result (adds_as (three_last (c.args.a, (c.args.b, c.args.c)))) c.write-in_default.ensures)
