use Rattle.std.proofs.Common.{◌∙◌, true, ap}
use Rattle.bl_ops.specs.declared.op.Op.TheVariants.{I32Sub, Move}
use Rattle.bl_program.specs.Rules.{assign}
use Rattle.bl_program.specs.declared.command.Operand.{Operand}
use Rattle.bl_program.specs.declared.command.Operand.TheVariants.{Const}
use Rattle.bl_cmd.proofs.Commands.{no_growth_t, no_growth_test, growth_is}
use Rattle.bl_cmd.proofs.rules.is_growth.Goals as goal

pub returns-in_default-assigned : goal.returns-in_default-assigned
returns-in_default-assigned c = (
  λ t. absurd (cc),
  λ growth. absurd (no_growth_t c.args.place.now c.args.memory c.args.delta c.requires.behind c.reserve_of.result c.before-2.result c.before-3.result c.before-3.result c.before-3.result
      c.in-Some.r.0 0 0 0 true c.before-2.ensures c.before-3.ensures c.reserve_of.ensures
      (c.in-Some.ensures.0, c.in-Some.ensures.1 ∙ ap (λ (s : Operand). assign c.in-Some.ensures.0 I32Sub c.in-Some.r.0 (Const c.reserve_of.result) s (Const 0)) c.size_of-size.ensures)
      c.in_default-assigned.ensures growth),
)

pub returns-in_default-branched : goal.returns-in_default-branched
returns-in_default-branched c = (
  λ t. absurd (cc),
  λ growth. absurd (no_growth_test c.args.place.now c.args.memory c.args.delta c.requires.behind c.reserve_of.result c.before-2.result c.before-3.result c.before-4.result c.before-4.result
      c.in-Some.r.0 c.in-Some-assigned.t.0 0 0 true c.before-2.ensures c.before-3.ensures c.reserve_of.ensures
      (c.in-Some.ensures.0, c.in-Some.ensures.1 ∙ ap (λ (s : Operand). assign c.in-Some.ensures.0 I32Sub c.in-Some.r.0 (Const c.reserve_of.result) s (Const 0)) c.size_of-size.ensures)
      c.in-Some-assigned.ensures c.before-4.ensures c.in_default-branched.ensures growth),
)

pub returns : goal.returns
returns c =
    growth_is c.args.place.now c.args.memory c.args.delta c.requires.behind c.reserve_of.result c.before-2.result c.before-3.result c.before-4.result c.before-5.result
    c.in-Some.r.0 c.in-Some-assigned.t.0 c.in-Some-assigned-2.v.0 c.in-Some-branched.yes.0 c.is_grown_by.result c.before-2.ensures c.before-3.ensures c.reserve_of.ensures
    (c.in-Some.ensures.0, c.in-Some.ensures.1 ∙ ap (λ (s : Operand). assign c.in-Some.ensures.0 I32Sub c.in-Some.r.0 (Const c.reserve_of.result) s (Const 0)) c.size_of-size.ensures)
    c.in-Some-assigned.ensures c.before-4.ensures c.requires.place c.in-Some-branched.ensures c.before-5.ensures
    (c.in-Some-assigned-2.ensures.0, c.in-Some-assigned-2.ensures.1 ∙ ap (λ (s : Operand). assign c.in-Some-assigned-2.ensures.0 Move c.in-Some-assigned-2.v.0 s (Const 0) (Const 0)) c.size_of-size.ensures)
    c.is_grown_by.ensures
