-- From the two verdicts to the one on two runs.
use Rattle.std.proofs.Common.{◌≡◌, ℕ, Bool, Option, Some, None, subst}
use Rattle.std.specs.Prelude.{IsTrue}
use Rattle.bl_program.specs.Programs.{IsProgram}
use Rattle.bl_program.specs.Rules.{IsWellFormed}
use Rattle.bl_program.specs.Sites.{is_protected}
use Rattle.bl_program.specs.declared.definitions.ProgramParts.{ProgramParts as Program}
use Rattle.bl_graph.specs.Labels.{ConstantTime}
use Rattle.bl_transient.specs.Transient.{Assigns, Trans, loaded, moved, given}
use Rattle.bl_transient.specs.Verdicts.{IsFirstLeak}
use Rattle.bl_base.specs.declared.number.Pos.{Pos}
use Rattle.bl_base.proofs.BoolLemmas.{never_both}
use Rattle.bl_sct.specs.Verdicts.{Assesses, IsStable, IsUnstable}
use Rattle.bl_sct.specs.declared.verdict.Verdict.TheVariants.{Safe}
use Rattle.bl_sct.proofs.EqualObservations.{equal}

-- what is transient in each typing
pub transient : (program : Program) (set typing : ℕ → Bool) → Assigns program typing set → (x : ℕ) → Trans program set x → IsTrue (typing x)
transient program set typing a x (loaded s _ l w f) = a.loads s x l w f
transient program set typing a x (moved s y _ r w f t) = a.moves s y x r w f (transient program set typing a y t)
transient program set typing a x (given _ h) = a.given x h

module _ (program : Program) (constant : ConstantTime program) (leak : Option Pos) (judged : IsFirstLeak program (is_protected program) leak) where
  pub safe : IsProgram program → IsWellFormed program → leak ≡ None → Assesses program Safe
  safe facts rules is =
      let passes : IsStable program = subst (IsFirstLeak program (is_protected program)) is judged in
      (constant, passes, equal program facts rules constant passes)

  pub unstable : (position : Pos) → leak ≡ Some position → IsUnstable program position.0
  unstable position is =
      let first = subst (IsFirstLeak program (is_protected program)) is judged in
      record {
        constant_time = constant;
        passes_not = λ p. never_both (p.0 first.var) (transient program (is_protected program) p.0 p.1.assigns first.var first.transient) (p.1.sinks position.0 first.var first.sink);
        first = first;
      }
