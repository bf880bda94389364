-- What the calls of the machine answer.
use Rattle.std.specs.Prelude.{◌≡◌, ℕ, Bool, true, false, if◌then◌else◌, IsSome, Option, Some, None, option_map, slice_get, take, Result, Ok, Err}
use Rattle.bl_base.specs.Runs.{Outcome, outcome_of}
use Rattle.bl_base.specs.declared.number.Pos.{Pos}
use Rattle.bl_base.specs.declared.run.Run.{Run}
use Rattle.bl_program.specs.Layout.{command_at}
use Rattle.bl_program.specs.declared.command.Command.{Command}
use Rattle.bl_program.specs.declared.definitions.ProgramParts.{ProgramParts as Program}
use Rattle.bl_seq.specs.RegisterTrees.{register_at}
use Rattle.bl_rob.specs.Machines.{State, Fetched, Straight, Branch, Nowhere, has_room, act, rolled_back, exec_entry, directive_step, end_in, outcome_by}
use Rattle.bl_rob.specs.Observations.{Observed, Rules}
use Rattle.bl_rob.specs.declared.directive.Directive.{Directive}
use Rattle.bl_rob.specs.declared.directive.Directive.TheVariants.{Fetch, Predict, Exec, Retire}
use Rattle.bl_rob.specs.declared.directive.End.{End}
use Rattle.bl_rob.specs.declared.directive.Kind.{Kind}
use Rattle.bl_rob.specs.declared.directive.Kind.TheVariants as kind
use Rattle.bl_rob.specs.declared.directive.Observation.{Observation}
use Rattle.bl_rob.specs.declared.directive.StepError.{StepError}
use Rattle.bl_rob.specs.declared.directive.StepError.TheVariants.{NotEnabled, Memory}
use Rattle.bl_rob.specs.declared.entry.Act.{Act}
use Rattle.bl_rob.specs.declared.entry.Act.TheVariants.{Idle}
use Rattle.bl_rob.specs.declared.entry.Entry.{Entry}
use Rattle.bl_rob.specs.declared.entry.Work.{Work}
use Rattle.bl_rob.specs.declared.entry.Work.TheVariants.{Nop, Assign, Load, Held, Done, Store, Ready, Guard, Fail}
use Rattle.bl_rob.specs.declared.front.Front.{Front}
use Rattle.bl_rob.specs.declared.machine.Machine.{Machine}
use Rattle.bl_rob.specs.declared.observe.Observed.{Observed as Collected}

-- the state that a machine stands for
abbrev pub shown : Machine → State
shown machine = record {
  buffer = machine.entries.items;
  front = machine.front;
  registers = λ depth x. register_at machine.registers depth x;
  space = machine.space;
  retired = machine.retired;
}

-- what is observed of directives
abbrev pub seen_in : {O : Type 0} → Collected O → Observed O
seen_in seen = record { made = seen.made; refused = seen.refused }

-- ---- steps

-- what a directive that was given in a state has come to: the step of the rules; or it isn't enabled; or there was no memory,
-- which isn't said of an Exec. After a refusal the state is the one before.
abbrev pub NeedsMemory : Directive → Type 0
NeedsMemory Fetch = Unit {0}
NeedsMemory (Predict predicted) = Unit {0}
NeedsMemory (Exec n) = ⊥
NeedsMemory Retire = Unit {0}

abbrev pub ComesBy : {O : Type 0} → Option (State × O) → Type 0 → State → Result O StepError → State → Type 0
ComesBy step needs old (Ok observation) new = step ≡ Some (new, observation)
ComesBy step needs old (Err NotEnabled) new = (step ≡ None) × (new ≡ old)
ComesBy step needs old (Err Memory) new = needs × (new ≡ old)

abbrev pub StepsBy : {O : Type 0} → (ℕ → Program → Rules O) → ℕ → Program → Directive → State → Result O StepError → State → Type 0
StepsBy rules most program d old result new = ComesBy (rules most program old d) (NeedsMemory d) old result new

-- of the buffer machine
abbrev pub Steps : ℕ → Program → Directive → State → Result Observation StepError → State → Type 0
Steps = StepsBy directive_step

-- what executing an entry has come to, where None says that it isn't enabled
abbrev pub Executes : Program → ℕ → State → Option Observation → State → Type 0
Executes program n old None new = (exec_entry program n old (slice_get old.buffer n) ≡ None) × (new ≡ old)
Executes program n old (Some observation) new = exec_entry program n old (slice_get old.buffer n) ≡ Some (new, observation)

-- what an entry comes to, where there is one
abbrev pub act_by : Program → State → ℕ → Option Entry → Act
act_by program s n None = Idle
act_by program s n (Some entry) = act program s.registers s.space (take n s.buffer) entry.work

abbrev pub act_at : Program → State → ℕ → Act
act_at program s n = act_by program s n (slice_get s.buffer n)

-- the machine behind a guard that was wrong
abbrev pub rolled_back_at : ℕ → State → Option Entry → State
rolled_back_at n s None = s
rolled_back_at n s (Some entry) = rolled_back n entry.position entry.work s

-- the command at the front end, unless that has ended
abbrev pub command_from : Program → Front → Option End → Option Command
command_from program front None = command_at program front.position
command_from program front (Some end) = None

-- the command that is fetched next, where the buffer has room for one more of at most so many entries
abbrev pub next_command : ℕ → Program → State → Option Command
next_command most program s = if has_room most s then command_from program s.front s.front.end else None

-- what is appended, and where the front end goes
abbrev pub work_in : Fetched → Option Work
work_in (Straight work front) = Some work
work_in (Branch cond one other) = None
work_in Nowhere = None

abbrev pub front_in : Front → Fetched → Front
front_in old (Straight work front) = front
front_in old (Branch cond one other) = old
front_in old Nowhere = old

-- a directive is enabled
abbrev pub is_some : {A : Type 0} → Option A → Bool
is_some None = false
is_some (Some x) = true

abbrev pub is_enabled_by : {O : Type 0} → (ℕ → Program → Rules O) → ℕ → Program → State → Directive → Bool
is_enabled_by rules most program s d = is_some (rules most program s d)

abbrev pub is_enabled : ℕ → Program → State → Directive → Bool
is_enabled = is_enabled_by directive_step

-- ---- what is told of a machine

-- what an entry is
abbrev pub kind_of : Work → Kind
kind_of Nop = kind.Nop
kind_of (Assign protect op to a b c) = kind.Assign
kind_of (Load protect what memory to offset address) = kind.Load
kind_of (Held to value) = kind.Held
kind_of (Done to value) = kind.Done
kind_of (Store what memory offset address value) = kind.Store
kind_of (Ready what memory offset address value) = kind.Ready
kind_of (Guard cond predicted other chain) = kind.Guard predicted
kind_of (Fail trap) = kind.Fail

-- the position and the kind that are told of an entry, exactly where there is one
abbrev pub IsEntryKind : Option Entry → Option (Pos × Kind) → Type 0
IsEntryKind None None = Unit {0}
IsEntryKind None (Some found) = ⊥
IsEntryKind (Some entry) None = ⊥
IsEntryKind (Some entry) (Some found) = (found.0.0 ≡ entry.position) × (found.1 ≡ kind_of entry.work)

-- where the front end is, unless it has ended
abbrev pub position_by : ℕ → Option End → Option ℕ
position_by position None = Some position
position_by position (Some end) = None

abbrev pub position_of : Front → Option ℕ
position_of front = position_by front.position front.end

-- the outcome of a machine, if it has ended
abbrev pub outcome_in : Program → State → Option Outcome
outcome_in program s = option_map (outcome_by program s) (end_in s)

-- a run that is told exactly where the machine has ended, with its outcome
abbrev pub IsRunOf : Option Outcome → Option Run → Type 0
IsRunOf outcome None = outcome ≡ None
IsRunOf outcome (Some run) = (outcome_of run ≡ outcome) × IsSome outcome
