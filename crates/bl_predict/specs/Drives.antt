-- A drive: the machine with directives that a predictor chooses, and a cache.
use Rattle.std.specs.Prelude.{◌≡◌, ℕ, zero, suc, ◌+◌, ◌-◌, ◌%◌, ◌<◌, ◌≤◌, ◌^◌, ◌&&◌, min, not, nat_le, Bool, true, false, if◌then◌else◌, List, [], ◌∷◌, ◌++◌, replicate, set, Option, Some, None, slice_get, slice_index, get_or}
use Rattle.std.specs.List.{find, range_with_len}
use Rattle.bl_base.specs.Runs.{outcome_of}
use Rattle.bl_base.specs.declared.start.Start.{Start}
use Rattle.bl_program.specs.declared.definitions.ProgramParts.{ProgramParts as Program}
use Rattle.bl_rob.specs.CallResults.{is_enabled, is_some, outcome_in, position_of, shown}
use Rattle.bl_rob.specs.Machines.{State, opening, directive_step, end_in, exec_entry}
use Rattle.bl_rob.specs.declared.directive.Directive.{Directive}
use Rattle.bl_rob.specs.declared.directive.Directive.TheVariants.{Fetch, Predict, Exec, Retire}
use Rattle.bl_rob.specs.declared.directive.End.{End}
use Rattle.bl_rob.specs.declared.directive.Observation.{Observation}
use Rattle.bl_rob.specs.declared.directive.Observation.TheVariants.{Read, Write, Rollback}
use Rattle.bl_rob.specs.declared.directive.Kind.{Kind}
use Rattle.bl_rob.specs.declared.directive.Kind.TheVariants as kind
use Rattle.bl_rob.specs.declared.entry.Entry.{Entry}
use Rattle.bl_rob.specs.declared.entry.Work.{Work}
use Rattle.bl_rob.specs.declared.entry.Work.TheVariants as work
use Rattle.bl_predict.specs.Lines.{line_of, has, accessed}
use Rattle.bl_predict.specs.declared.choice.Readiness.{Readiness}
use Rattle.bl_predict.specs.declared.choice.Readiness.TheVariants as execution
use Rattle.bl_predict.specs.declared.driver.Driven.{Driven}
use Rattle.bl_predict.specs.declared.driver.Driver.{Driver}

-- a drive on its way: the machine's state, the counters, the lists of the cache, the directives that were chosen, and the counts
pub record DriveState : Type 0 where
  pub state : State
  pub counters : List ℕ
  pub sets : List (List ℕ)
  pub trace : List Directive
  pub rollbacks : ℕ
  pub hits : ℕ
  pub misses : ℕ

abbrev pub begun : Program → ℕ → Start → DriveState
begun program function start = record {
  state = opening program function start;
  counters = replicate 1024 1;
  sets = replicate 64 [];
  trace = [];
  rollbacks = 0;
  hits = 0;
  misses = 0;
}

-- ---- the choice

-- what the counter of a position guesses; without a position no guess is enabled, whatever it is
abbrev pub guess_at : List ℕ → Option ℕ → Bool
guess_at counters None = false
guess_at counters (Some position) = nat_le 2 (slice_index counters (position % 1024))

-- what the counter of the front end's position guesses
abbrev pub guessed : List ℕ → State → Bool
guessed counters s = guess_at counters (position_of s.front)

abbrev pub is_read : Observation → Bool
is_read (Read address guards) = true
is_read _ = false

-- a step was observed as a read
abbrev pub shows_read : Option (State × Observation) → Bool
shows_read None = false
shows_read (Some step) = is_read step.1

abbrev pub or_else : Option ℕ → Option Directive → Option Directive
or_else (Some n) d = Some (Exec n)
or_else None d = d

-- the least number below a bound that passes a test
unfoldable pub least : (ℕ → Bool) → ℕ → Option ℕ
least test count = find test (range_with_len 0 count)

-- the first of these that is enabled, of so many entries: a fetch, a guess, the least execution that reads, the least execution, a retirement
abbrev pub first_of : (Directive → Bool) → (ℕ → Bool) → Bool → ℕ → Option Directive
first_of enabled reads guess entries =
    if enabled Fetch then Some Fetch
    else if enabled (Predict guess) then Some (Predict guess)
    else or_else (least reads entries)
    (or_else (least (λ n. enabled (Exec n)) entries) (if enabled Retire then Some Retire else None))

-- a buffer has at most 64 entries
abbrev pub chosen : Program → List ℕ → State → Option Directive
chosen program counters s =
    first_of (is_enabled 64 program s) (λ n. shows_read (directive_step 64 program s (Exec n))) (guessed counters s) 64

-- ---- a step of a drive

-- the counter of a guard's position behind its execution: up where the condition isn't 0, else down
abbrev pub counted : Bool → ℕ → ℕ
counted true count = min 3 (count + 1)
counted false count = count - 1

abbrev pub is_rollback : Observation → Bool
is_rollback (Rollback n) = true
is_rollback _ = false

-- the guess was right where nothing was rolled back
abbrev pub judged : Bool → Bool → Bool
judged predicted true = not predicted
judged predicted false = predicted

-- the place of a guard's counter, and what was predicted; none of another entry
abbrev pub guard_at : Option Entry → Option (ℕ × Bool)
guard_at None = None
guard_at (Some entry) = by entry.work
  where
    by : Work → Option (ℕ × Bool)
    by (work.Guard cond predicted other chain) = Some (entry.position % 1024, predicted)
    by _ = None

-- the same of the guard that a directive executes
abbrev pub guard_of : State → Directive → Option (ℕ × Bool)
guard_of s (Exec n) = guard_at (slice_get s.buffer n)
guard_of s _ = None

-- the counters behind the execution of a guard
abbrev pub moved : List ℕ → Observation → Option (ℕ × Bool) → List ℕ
moved counters observation None = counters
moved counters observation (Some guard) =
    set counters guard.0 (counted (judged guard.1 (is_rollback observation)) (slice_index counters guard.0))

abbrev pub taught : List ℕ → State → Directive → Observation → List ℕ
taught counters s directive observation = moved counters observation (guard_of s directive)

-- an access to the cache
abbrev pub touched : ℕ → DriveState → DriveState
touched address d =
    let line = line_of address in
    let number = line % 64 in
    let lines = get_or d.sets number [] in
    record d {
      sets = set d.sets number (accessed 8 line lines);
      hits = if has line lines then d.hits + 1 else d.hits;
      misses = if has line lines then d.misses else d.misses + 1;
    }

abbrev pub after_observation : Observation → DriveState → DriveState
after_observation (Read address guards) d = touched address d
after_observation (Write address guards) d = touched address d
after_observation (Rollback n) d = record d { rollbacks = d.rollbacks + 1 }
after_observation _ d = d

abbrev pub stepped : DriveState → Directive → Option (State × Observation) → DriveState
stepped d directive None = d
stepped d directive (Some step) =
    after_observation step.1 (record d { state = step.0; counters = taught d.counters d.state directive step.1; trace = d.trace ++ directive ∷ [] })

abbrev pub drive_step_by : Program → DriveState → Option Directive → DriveState
drive_step_by program d None = d
drive_step_by program d (Some directive) = stepped d directive (directive_step 64 program d.state directive)

abbrev pub drive_step : Program → DriveState → DriveState
drive_step program d = drive_step_by program d (chosen program d.counters d.state)

-- ---- the drive

abbrev pub unless_ended : Option End → DriveState → DriveState → DriveState
unless_ended None next d = next
unless_ended (Some end) next d = d

-- steps of a drive until the machine has ended, at most so many
abbrev pub driven : Program → ℕ → DriveState → DriveState
driven program zero d = d
driven program (suc most) d = unless_ended (end_in d.state) (driven program most (drive_step program d)) d

-- what the execution of an entry would be: where it is enabled, and where it is observed as a read
abbrev pub execution_of : Bool → Bool → Readiness
execution_of true enabled = execution.Reading
execution_of false true = execution.Enabled
execution_of false false = execution.Disabled

-- what is told of it, where one that doesn't read is wanted or isn't
abbrev pub execution_by : Bool → Option (State × Observation) → Readiness
execution_by wanted step = execution_of (shows_read step) (wanted && is_some step)

-- the same of the entry at a place, where there is one
abbrev pub execution_at : Program → State → ℕ → Bool → Option Entry → Readiness
execution_at program s n wanted None = execution.Absent
execution_at program s n wanted (Some entry) = execution_by wanted (exec_entry program n s (Some entry))

-- what a driver has come to
abbrev pub drive_state : Driver → DriveState
drive_state driver = record {
  state = shown driver.rob.machine;
  counters = driver.counters.items;
  sets = driver.cache;
  trace = driver.trace;
  rollbacks = driver.rollbacks;
  hits = driver.hits;
  misses = driver.misses;
}

-- the counts can grow
pub record HasRoom (d : DriveState) : Type 0 where
  pub rollbacks : d.rollbacks < 2 ^ 64 - 1
  pub hits : d.hits < 2 ^ 64 - 1
  pub misses : d.misses < 2 ^ 64 - 1

-- the counts are at most the steps
pub record AreFew (steps : ℕ) (d : DriveState) : Type 0 where
  pub rollbacks : d.rollbacks ≤ steps
  pub hits : d.hits ≤ steps
  pub misses : d.misses ≤ steps

-- what a drive answers: its trace, its counts and its cache; and the outcome, where the machine has ended, else that the steps were spent
pub record IsDriven (program : Program) (d : DriveState) (driven : Driven) : Type 0 where
  pub trace : driven.trace ≡ d.trace
  pub rollbacks : driven.rollbacks ≡ d.rollbacks
  pub hits : driven.hits ≡ d.hits
  pub misses : driven.misses ≡ d.misses
  pub cache : driven.cache ≡ d.sets
  pub run : outcome_of driven.run ≡ outcome_in program d.state

-- drives that have chosen and counted alike
pub record AreSame (d e : DriveState) : Type 0 where
  pub trace : d.trace ≡ e.trace
  pub rollbacks : d.rollbacks ≡ e.rollbacks
  pub hits : d.hits ≡ e.hits
  pub misses : d.misses ≡ e.misses

abbrev pub is_load : Kind → Bool
is_load kind.Load = true
is_load kind.Nop = false
is_load kind.Assign = false
is_load kind.Held = false
is_load kind.Done = false
is_load kind.Store = false
is_load kind.Ready = false
is_load (kind.Guard predicted) = false
is_load kind.Fail = false

-- an entry of that kind is looked at, where one that doesn't read is wanted or isn't: not what has nothing left to execute
abbrev pub is_asked : Kind → Bool → Bool
is_asked kind.Load wanted = true
is_asked kind.Nop wanted = false
is_asked kind.Assign wanted = wanted
is_asked kind.Held wanted = wanted
is_asked kind.Done wanted = false
is_asked kind.Store wanted = wanted
is_asked kind.Ready wanted = false
is_asked (kind.Guard predicted) wanted = wanted
is_asked kind.Fail wanted = false
