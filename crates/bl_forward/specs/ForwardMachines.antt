-- The machine that forwards stores: the buffer machine but for the execution of a pending load.
use Rattle.std.proofs.Common.{◌≡◌, refl}
use Rattle.std.specs.Prelude.{ℕ, ◌+◌, ◌&&◌, nat_eq, nat_lt, Bool, if◌then◌else◌, List, take, Option, Some, None, slice_get}
use Rattle.std.specs.List.{fold}
use Rattle.bl_base.specs.declared.start.Start.{Start}
use Rattle.bl_ops.specs.Access.{extended, narrowed, width_of}
use Rattle.bl_ops.specs.declared.access.AccessKind.{AccessKind}
use Rattle.bl_program.specs.Steps.{effective, loaded}
use Rattle.bl_program.specs.declared.definitions.ProgramParts.{ProgramParts as Program}
use Rattle.bl_rob.specs.LoadPolicies.{IsNoExec, told_as}
use Rattle.bl_rob.specs.Machines.{State, opening, become, directive_step, guards, has_pending, valued, visible_of}
use Rattle.bl_rob.specs.Observations.{Rules, Observed, observed_by, HasEqualObservationsBy}
use Rattle.bl_rob.specs.declared.directive.Directive.{Directive}
use Rattle.bl_rob.specs.declared.directive.Directive.TheVariants.{Fetch, Predict, Exec, Retire}
use Rattle.bl_rob.specs.declared.directive.Observation.{Observation}
use Rattle.bl_rob.specs.declared.directive.Observation.TheVariants as observed
use Rattle.bl_rob.specs.declared.entry.Entry.{Entry}
use Rattle.bl_rob.specs.declared.entry.Register.{Register}
use Rattle.bl_rob.specs.declared.entry.Work.{Work}
use Rattle.bl_rob.specs.declared.entry.Work.TheVariants.{Load, Ready}
use Rattle.bl_forward.specs.declared.find.Found.{Found}
use Rattle.bl_forward.specs.declared.find.Found.TheVariants.{Memory, Stored, Blocked}
use Rattle.bl_forward.specs.declared.load.Execution.{Execution}
use Rattle.bl_forward.specs.declared.load.Execution.TheVariants as execution
use Rattle.bl_forward.specs.declared.seen.Seen.{Seen}
use Rattle.bl_forward.specs.declared.seen.Seen.TheVariants.{Plain, Forward}

-- ---- where a load finds its bytes

-- ranges of bytes from these places on, of so many bytes, have one in common
abbrev pub meets : ℕ → ℕ → ℕ → ℕ → Bool
meets at count from width = nat_lt from (at + count) && nat_lt at (from + width)

-- behind a ready store of a number, of that range
abbrev pub supplies : ℕ → ℕ → ℕ → ℕ → ℕ → Found → Found
supplies from width at count number found =
    if meets at count from width then (if nat_eq at from && nat_eq count width then Stored number else Blocked) else found

-- behind an entry
abbrev pub supplied : Program → ℕ → ℕ → Work → Found → Found
supplied program from width (Ready kind memory offset address value) found =
    supplies from width (effective program memory offset address) (width_of kind) (narrowed kind value) found
supplied program from width _ found = found

-- behind entries, from the oldest on
abbrev pub found_from : Program → ℕ → ℕ → List Entry → Found → Found
found_from program from width entries found = fold (λ so_far entry. supplied program from width entry.work so_far) found entries

abbrev pub found_in : Program → ℕ → ℕ → List Entry → Found
found_in program from width entries = found_from program from width entries Memory

-- ---- loads

-- where a load of so many bytes from a place on finds them behind entries; none where a store among them isn't ready
abbrev pub found_behind : Program → ℕ → ℕ → List Entry → Option Found
found_behind program from width entries = if has_pending entries then None else Some (found_in program from width entries)

-- what a load from a place on comes to, with these guards before it, by where it finds its bytes: its entry is done, or held where it is protected,
-- with what memory has, which is observed as a read, or with what the store has, which is observed as a forward; else it waits
abbrev pub execution_by : List ℕ → ℕ → Bool → AccessKind → Register → ℕ → Option Found → Execution
execution_by space mask protect kind to from None = execution.Waits
execution_by space mask protect kind to from (Some Memory) = execution.Fills (valued protect to (loaded kind space from)) (Plain (observed.Read from mask))
execution_by space mask protect kind to from (Some (Stored number)) = execution.Fills (valued protect to (extended kind number)) (Forward from mask)
execution_by space mask protect kind to from (Some Blocked) = execution.Waits

-- what a load behind entries comes to, where its address is visible or isn't
abbrev pub execution_from : Program → List ℕ → List Entry → Bool → AccessKind → ℕ → Register → ℕ → Option ℕ → Execution
execution_from program space entries protect kind memory to offset None = execution.Waits
execution_from program space entries protect kind memory to offset (Some address) =
    let from = effective program memory offset address in
    execution_by space (guards entries) protect kind to from (found_behind program from (width_of kind) entries)

-- what work behind entries comes to: all but a pending load does what it does in the buffer machine
abbrev pub execution_of : Program → State → List Entry → Work → Execution
execution_of program s entries (Load protect kind memory to offset address) =
    execution_from program s.space entries protect kind memory to offset (visible_of s.registers entries address)
execution_of program s entries _ = execution.Plain

-- ---- directives

-- a step of the buffer machine
abbrev pub plainly : Option (State × Observation) → Option (State × Seen)
plainly = told_as Plain

-- the step of an entry by what it comes to: the buffer machine's, none, or to its new work
abbrev pub stepped : Option (State × Seen) → State → ℕ → ℕ → Execution → Option (State × Seen)
stepped plain s n position execution.Plain = plain
stepped plain s n position execution.Waits = None
stepped plain s n position (execution.Fills work seen) = Some (become n position work s, seen)

abbrev pub exec_work : ℕ → Program → State → ℕ → ℕ → Work → Option (State × Seen)
exec_work most program s n position work =
    stepped (plainly (directive_step most program s (Exec n))) s n position (execution_of program s (take n s.buffer) work)

abbrev pub exec_at : ℕ → Program → State → ℕ → Option Entry → Option (State × Seen)
exec_at most program s n None = None
exec_at most program s n (Some entry) = exec_work most program s n entry.position entry.work

-- one directive, with a buffer of at most so many entries
abbrev pub forward_step : ℕ → Program → Rules Seen
forward_step most program s Fetch = plainly (directive_step most program s Fetch)
forward_step most program s (Predict predicted) = plainly (directive_step most program s (Predict predicted))
forward_step most program s (Exec n) = exec_at most program s n (slice_get s.buffer n)
forward_step most program s Retire = plainly (directive_step most program s Retire)

-- all but an Exec is the buffer machine's
pub other_steps : (most : ℕ) (program : Program) (s : State) (d : Directive) → IsNoExec d → forward_step most program s d ≡ told_as Plain (directive_step most program s d)
other_steps most program s Fetch other = refl
other_steps most program s (Predict predicted) other = refl
other_steps most program s (Exec n) other = absurd other
other_steps most program s Retire other = refl

-- what the entry of an index comes to, where there is one
abbrev pub execution_where : Program → State → ℕ → Option Entry → Execution
execution_where program s n None = execution.Plain
execution_where program s n (Some entry) = execution_of program s (take n s.buffer) entry.work

abbrev pub execution_at : Program → State → ℕ → Execution
execution_at program s n = execution_where program s n (slice_get s.buffer n)

-- ---- lists of directives

-- what is observed of these directives from the opening of a function's run; the first one has place 1
abbrev pub observed_forwarding : ℕ → Program → ℕ → Start → List Directive → Observed Seen
observed_forwarding most program function start directives = observed_by (forward_step most program) 1 directives (opening program function start)

-- runs of one function from starts that agree in public are observed alike by it, whatever the directives and the size of the
-- buffer, and meet the demands where both have ended
abbrev pub HasEqualForwarding : Program → Type 0
HasEqualForwarding = HasEqualObservationsBy forward_step
