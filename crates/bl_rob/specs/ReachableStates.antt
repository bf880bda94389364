-- The states that a machine comes to.
use Rattle.std.specs.Prelude.{◌≡◌, ℕ, Some}
use Rattle.bl_base.specs.declared.start.Start.{Start}
use Rattle.bl_program.specs.Outcomes.{IsStart}
use Rattle.bl_program.specs.declared.definitions.ProgramParts.{ProgramParts as Program}
use Rattle.bl_rob.specs.Machines.{State, directive_step, opening}
use Rattle.bl_rob.specs.Observations.{Rules}
use Rattle.bl_rob.specs.declared.directive.Directive.{Directive}

-- directives lead by these rules from a state to another
pub data DirectivesLead {O : Type 0} (rules : Rules O) (from : State) : State → Type 0 where
  stays : DirectivesLead rules from from
  more : (s t : State) (d : Directive) (observation : O) → DirectivesLead rules from s
      → rules s d ≡ Some (t, observation) → DirectivesLead rules from t

-- directives lead by these rules to a state from the opening of a function with a start that fits it
pub record IsReachedBy {O : Type 0} (rules : Rules O) (program : Program) (s : State) : Type 0 where
  pub function : ℕ
  pub start : Start
  pub fits : IsStart program function start
  pub leads : DirectivesLead rules (opening program function start) s

-- the same of the buffer machine, with a buffer of at most so many entries
abbrev pub IsReached : ℕ → Program → State → Type 0
IsReached most program = IsReachedBy (directive_step most program) program
