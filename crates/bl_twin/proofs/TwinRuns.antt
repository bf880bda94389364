-- Two runs of a function, of which what is observed is compared.
use Rattle.std.proofs.Common.{◌≡◌, ◌↔◌, ◌∙◌, ℕ, Bool, IsTrue, List, Result, Ok, Err}
use Rattle.std.specs.Prelude.{IfOk}
use Rattle.bl_base.specs.declared.start.Start.{Start}
use Rattle.bl_program.specs.declared.definitions.ProgramParts.{ProgramParts as Program}
use Rattle.bl_program.specs.Outcomes.{Agree}
use Rattle.bl_rob.specs.Machines.{opening}
use Rattle.bl_rob.specs.Observations.{Observed, Rules, observed_by}
use Rattle.bl_rob.specs.declared.directive.Directive.{Directive}
use Rattle.bl_twin.specs.TwinComparisons.{comparison_by, twin_text_by}
use Rattle.bl_twin.specs.Runs.{IsSideBySideBy}
use Rattle.bl_twin.specs.declared.text.Compared.{Compared}

module _ {O : Type 0} (alike : O → O → Bool) (line : O → List ℕ) (rules : Program → Rules O) (program : Program) (function : ℕ) (one other : Start) (directives : List Directive)
    (agree : Bool) (first second : Observed O) where
  abbrev from : Start → Observed O
  from start = observed_by (rules program) 1 directives (opening program function start)

  pub side_by_side : {E : Type 0} (result : Result Compared E) → IsTrue agree ↔ Agree program function one other → first ≡ from one → second ≡ from other
      → IfOk result (λ compared. compared.comparison ≡ comparison_by alike first second)
      → IfOk result (λ compared. compared.text ≡ twin_text_by alike line agree first second)
      → IfOk result (IsSideBySideBy alike line rules program function one other directives)
  side_by_side (Err e) agrees is these compares tells = tt
  side_by_side (Ok compared) agrees is these compares tells = record {
    agree = agree;
    agrees = agrees;
    compares = compares ∙ (λ i. comparison_by alike (is i) (these i));
    tells = tells ∙ (λ i. twin_text_by alike line agree (is i) (these i));
  }
