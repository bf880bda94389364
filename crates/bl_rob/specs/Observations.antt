-- Lists of directives: where they lead and what is observed; consistency with the plain run; and equal observations.
use Rattle.std.specs.Prelude.{◌≡◌, ◌≤◌, ℕ, suc, Contains, List, [], ◌∷◌, Option, Some, None}
use Rattle.bl_base.specs.Runs.{StepsTo, EndsAfter}
use Rattle.bl_base.specs.declared.start.Start.{Start}
use Rattle.bl_program.specs.Layout.{result}
use Rattle.bl_program.specs.Outcomes.{Agree}
use Rattle.bl_program.specs.Steps.{Plain, plain_step}
use Rattle.bl_program.specs.declared.definitions.Demand.TheVariants as demand
use Rattle.bl_program.specs.declared.definitions.ProgramParts.{ProgramParts as Program}
use Rattle.bl_rob.specs.Machines.{State, opening, directive_step, end_in, outcome_by}
use Rattle.bl_rob.specs.declared.directive.Directive.{Directive}
use Rattle.bl_rob.specs.declared.directive.End.{End}
use Rattle.bl_rob.specs.declared.directive.End.TheVariants as ending
use Rattle.bl_rob.specs.declared.directive.Observation.{Observation}

-- ---- lists of directives

-- the rules of a machine over these states: the state that a directive leads to and what is observed, where it is enabled
abbrev pub Rules : Type 0 → Type 0
Rules O = State → Directive → Option (State × O)

-- what is observed, and the place of the first directive that isn't enabled, if there is one
pub record Observed (O : Type 0) : Type 0 where
  pub made : List O
  pub refused : Option ℕ

-- the state behind a step, or else the one before it
abbrev pub go_on : {O : Type 0} → (State → State) → State → Option (State × O) → State
go_on rest s None = s
go_on rest s (Some step) = rest step.0

abbrev pub see : {O : Type 0} → (State → Observed O) → ℕ → Option (State × O) → Observed O
see rest place None = record { made = []; refused = Some place }
see rest place (Some step) = record { made = step.1 ∷ (rest step.0).made; refused = (rest step.0).refused }

-- the state behind these directives, up to the first one that isn't enabled
abbrev pub after_by : {O : Type 0} → Rules O → List Directive → State → State
after_by rules [] s = s
after_by rules (d ∷ directives) s = go_on (after_by rules directives) s (rules s d)

-- what is observed of these directives, where the first one has that place
abbrev pub observed_by : {O : Type 0} → Rules O → ℕ → List Directive → State → Observed O
observed_by rules place [] s = record { made = []; refused = None }
observed_by rules place (d ∷ directives) s = see (observed_by rules (suc place) directives) place (rules s d)

-- the same of the buffer machine, with a buffer of at most so many entries
abbrev pub after : ℕ → Program → List Directive → State → State
after most program = after_by (directive_step most program)

abbrev pub observed_from : ℕ → Program → ℕ → List Directive → State → Observed Observation
observed_from most program = observed_by (directive_step most program)

-- of these directives from the opening of a function's run; the first one has place 1
abbrev pub observed : ℕ → Program → ℕ → Start → List Directive → Observed Observation
observed most program function start directives = observed_from most program 1 directives (opening program function start)

-- the state behind these directives from the opening
abbrev pub reached : ℕ → Program → ℕ → Start → List Directive → State
reached most program function start directives = after most program directives (opening program function start)

-- ---- consistency with the plain run

-- a state of the plain run has these registers and these bytes of the memories
pub record IsAlike (s : State) (plain : Plain) : Type 0 where
  pub registers : s.registers ≡ plain.registers
  pub space : s.space ≡ plain.space

-- the plain run comes in so many steps to a state with the same registers and memories
pub record IsComeTo (program : Program) (from : Plain) (s : State) (steps : ℕ) : Type 0 where
  pub plain : Plain
  pub comes : StepsTo (plain_step program) steps from plain
  pub alike : IsAlike s plain

-- a machine that hasn't ended is where the plain run is after as many commands as it has retired; one that has ended has the
-- plain run's outcome after exactly so many commands, the last of which changes neither registers nor memories
pub record HasEnded (program : Program) (from : Plain) (s : State) (end : End) (steps : ℕ) : Type 0 where
  pub before : ℕ
  pub last : steps ≡ suc before
  pub comes : IsComeTo program from s before
  pub outcome : EndsAfter (plain_step program) steps from (outcome_by program s end)

abbrev pub IsConsistentBy : Program → Plain → State → Option End → Type 0
IsConsistentBy program from s None = IsComeTo program from s s.retired
IsConsistentBy program from s (Some end) = HasEnded program from s end s.retired

-- the machine's state agrees with the plain run from a state
abbrev pub IsConsistent : Program → Plain → State → Type 0
IsConsistent program from s = IsConsistentBy program from s (end_in s)

-- ---- equal observations

-- two ended machines hold the same globals that are demanded to be public, and, where they have returned, the same results of
-- the function that are
pub record MeetDemands (program : Program) (function : ℕ) (one other : State) : Type 0 where
  pub globals : (x : ℕ) → Contains program.demands (demand.Global x) → one.registers 0 x ≡ other.registers 0 x
  pub results : end_in one ≡ Some ending.Returned → end_in other ≡ Some ending.Returned
      → (index : ℕ) → Contains program.demands (demand.Result function index)
      → one.registers 0 (result program function index) ≡ other.registers 0 (result program function index)

-- where both machines have ended
abbrev pub MeetWhereEnded : Program → ℕ → State → State → Option End → Option End → Type 0
MeetWhereEnded program function one other (Some a) (Some b) = MeetDemands program function one other
MeetWhereEnded program function one other (Some a) None = Unit {0}
MeetWhereEnded program function one other None b = Unit {0}

-- the two runs by these rules are observed alike, and meet the demands where both have ended
pub record AreAlikeBy {O : Type 0} (rules : Rules O) (program : Program) (function : ℕ) (directives : List Directive) (a b : Start) : Type 0 where
  pub observed : observed_by rules 1 directives (opening program function a) ≡ observed_by rules 1 directives (opening program function b)
  pub demands : MeetWhereEnded program function (after_by rules directives (opening program function a)) (after_by rules directives (opening program function b))
      (end_in (after_by rules directives (opening program function a))) (end_in (after_by rules directives (opening program function b)))

-- runs of one function from starts that agree in public are observed alike, whatever the directives and the size of the buffer
abbrev pub HasEqualObservationsBy : {O : Type 0} → (ℕ → Program → Rules O) → Program → Type 0
HasEqualObservationsBy rules program = (most : ℕ) → 1 ≤ most → most ≤ 64
    → (function : ℕ) (directives : List Directive) (a b : Start) → Agree program function a b
    → AreAlikeBy (rules most program) program function directives a b

abbrev pub HasEqualObservations : Program → Type 0
HasEqualObservations = HasEqualObservationsBy directive_step

-- what is observed of directives by these rules from a state on, and the state that they lead to
pub record ObservesBy {O : Type 0} (rules : Rules O) (directives : List Directive) (old : State) (seen : Observed O) (new : State) : Type 0 where
  pub observed : seen ≡ observed_by rules 1 directives old
  pub leads : new ≡ after_by rules directives old

-- the same of the buffer machine, with a buffer of at most so many entries
abbrev pub Observes : ℕ → Program → List Directive → State → Observed Observation → State → Type 0
Observes most program = ObservesBy (directive_step most program)
