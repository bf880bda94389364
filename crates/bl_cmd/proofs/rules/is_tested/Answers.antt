use Rattle.std.proofs.Common.{◌∙◌, ap}
use Rattle.bl_ops.specs.declared.op.Op.TheVariants.{Outside}
use Rattle.bl_program.specs.Rules.{assign}
use Rattle.bl_program.specs.declared.command.Operand.{Operand}
use Rattle.bl_program.specs.declared.command.Operand.TheVariants.{Const}
use Rattle.bl_cmd.proofs.Commands.{tested_is}
use Rattle.bl_cmd.proofs.rules.is_tested.Goals as goal

pub returns : goal.returns
returns c =
    tested_is c.args.place.now c.args.address c.args.memory c.args.bytes c.before-set.result c.before-2.result c.in-Some.t.0 c.in-Some-branched.yes.0 c.is_tested_by.result c.requires.place
    (c.is_behind.ensures.0 c.if-not-is_behind.false) c.before-set.ensures c.before-2.ensures
    (c.in-Some.ensures.0, c.in-Some.ensures.1 ∙ ap (λ (s : Operand). assign c.in-Some.ensures.0 Outside c.in-Some.t.0 c.args.address s (Const c.args.bytes)) c.size_of-size.ensures)
    c.in-Some-branched.ensures c.is_tested_by.ensures
