use Rattle.std.proofs.Common.{◌∙◌, Bool, ap, subst, ℕ, Option}
use Rattle.std.proofs.Math.Path.{fun_ext}
use Rattle.std.specs.Prelude.{IfOk}
use Rattle.bl_base.specs.declared.number.Pos.{Pos}
use Rattle.bl_program.specs.Sites.{is_protected}
use Rattle.bl_transient.specs.Verdicts.{IsFirstLeak}
use Rattle.bl_sct.proofs.verdict.own_leak_of.Goals as goal

pub returns : goal.returns
returns c =
    let program = c.args.program.now in
    let same = fun_ext (λ (s : ℕ). c.in_ok-protects.ensures s ∙ ap (λ p. is_protected p s) (c.parts-parts.ensures.same ∙ c.program.ensures.same)) in
    subst (λ (set : ℕ → Bool). IfOk c.first_leak_of.result (λ (leak : Option Pos). IsFirstLeak program set leak)) same c.first_leak_of.ensures
