-- Two runs of a function on the same directives.
use Rattle.std.specs.Prelude.{◌≡◌, ◌↔◌, ℕ, Bool, IsTrue, List}
use Rattle.bl_base.specs.declared.start.Start.{Start}
use Rattle.bl_program.specs.Outcomes.{Agree}
use Rattle.bl_program.specs.declared.definitions.ProgramParts.{ProgramParts as Program}
use Rattle.bl_rob.specs.Machines.{directive_step, opening}
use Rattle.bl_rob.specs.Observations.{Rules, observed_by}
use Rattle.bl_rob.specs.declared.directive.Directive.{Directive}
use Rattle.bl_trace.specs.Observations.{observation_text}
use Rattle.bl_twin.specs.TwinComparisons.{comparison_by, is_same, twin_text_by}
use Rattle.bl_twin.specs.declared.text.Compared.{Compared}

-- whether two starts agree in public, and how what is observed from them by these rules compares
pub record IsSideBySideBy {O : Type 0} (alike : O → O → Bool) (line : O → List ℕ) (rules : Program → Rules O) (program : Program) (function : ℕ) (one other : Start)
    (directives : List Directive) (compared : Compared) : Type 0 where
  pub agree : Bool
  pub agrees : IsTrue agree ↔ Agree program function one other
  pub compares : compared.comparison
      ≡ comparison_by alike (observed_by (rules program) 1 directives (opening program function one)) (observed_by (rules program) 1 directives (opening program function other))
  pub tells : compared.text
      ≡ twin_text_by alike line agree (observed_by (rules program) 1 directives (opening program function one)) (observed_by (rules program) 1 directives (opening program function other))

-- the same of the buffer machine with room for 64 entries
abbrev pub IsSideBySide : Program → ℕ → Start → Start → List Directive → Compared → Type 0
IsSideBySide = IsSideBySideBy is_same observation_text (directive_step 64)
