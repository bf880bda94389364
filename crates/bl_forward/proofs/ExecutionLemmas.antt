-- Steps by what an entry comes to, and the numbers that are forwarded.
use Rattle.std.proofs.Common.{◌≡◌, ℕ, ◌*◌, ◌^◌, ◌<◌, ◌≤◌, Bool, true, false, List, [], ◌∷◌, length, take, Option, Some, None, refl, sym, ap, ◌∙◌, subst, arith}
use Rattle.std.proofs.lemmas.Bool.{eqb-true}
use Rattle.std.specs.Prelude.{◌&&◌, nat_eq, if◌then◌else◌, slice_get, Result}
use Rattle.std.specs.Option.{ok_or}
use Rattle.bl_base.proofs.BoolLemmas.{each_true}
use Rattle.bl_ops.specs.Access.{narrowed, width_of}
use Rattle.bl_ops.proofs.Fits.{store_fits}
use Rattle.bl_program.specs.Outcomes.{opening as plain_opening}
use Rattle.bl_program.specs.Programs.{IsProgram}
use Rattle.bl_program.specs.Rules.{IsWellFormed}
use Rattle.bl_program.specs.Steps.{effective}
use Rattle.bl_program.specs.declared.definitions.ProgramParts.{ProgramParts as Program}
use Rattle.bl_rob.specs.CallResults.{Executes, NeedsMemory, StepsBy, is_enabled_by, is_some}
use Rattle.bl_rob.specs.LoadPolicies.{answer_as}
use Rattle.bl_rob.specs.Machines.{State, become, directive_step, exec_entry, has_pending}
use Rattle.bl_rob.specs.declared.directive.Directive.TheVariants.{Exec}
use Rattle.bl_rob.specs.declared.directive.Observation.{Observation}
use Rattle.bl_rob.specs.declared.directive.Observation.TheVariants.{Nothing}
use Rattle.bl_rob.specs.declared.directive.StepError.{StepError}
use Rattle.bl_rob.specs.declared.directive.StepError.TheVariants.{NotEnabled}
use Rattle.bl_rob.specs.declared.entry.Act.TheVariants.{Becomes}
use Rattle.bl_rob.specs.declared.entry.Entry.{Entry}
use Rattle.bl_rob.specs.declared.entry.Work.{Work}
use Rattle.bl_rob.specs.declared.entry.Work.TheVariants.{Ready}
use Rattle.bl_rob.proofs.BufferInvariant.{Holds}
use Rattle.bl_rob.proofs.PolicyLemmas.{told_enabled, told_steps}
use Rattle.bl_rob.proofs.ReachabilityLemmas.{KeepAll}
use Rattle.bl_rob.proofs.BufferRoom.{Fits, acted_fits, comes_fit, executes, step_fits, within}
use Rattle.bl_sct.proofs.Loads.{opened_by}
use Rattle.bl_forward.specs.ForwardMachines.{exec_at, found_behind, found_from, found_in, forward_step, plainly, stepped, supplied, execution_of, execution_at, execution_where}
use Rattle.bl_forward.specs.declared.find.Found.{Found}
use Rattle.bl_forward.specs.declared.find.Found.TheVariants.{Memory, Stored, Blocked}
use Rattle.bl_forward.specs.declared.load.Execution.{Execution}
use Rattle.bl_forward.specs.declared.load.Execution.TheVariants as execution
use Rattle.bl_forward.specs.declared.seen.Seen.{Seen}
use Rattle.bl_forward.specs.declared.seen.Seen.TheVariants.{Plain as Shown}
use Rattle.bl_forward.proofs.ForwardInvariant.{forward_ok, plainly_holds}

-- ---- the step of an entry, by what it comes to

module _ (most : ℕ) (program : Program) (s : State) (n : ℕ) where
  abbrev plain : Option (State × Seen)
  plain = plainly (directive_step most program s (Exec n))

  plain_at : (o : Option Entry) → slice_get s.buffer n ≡ o → execution_where program s n o ≡ execution.Plain → exec_at most program s n o ≡ plainly (directive_step most program s (Exec n))
  plain_at None is e = sym (ap (λ o. plainly (exec_entry program n s o)) is)
  plain_at (Some entry) is e = ap (stepped plain s n entry.position) e

  pub plain_execution : execution_at program s n ≡ execution.Plain → forward_step most program s (Exec n) ≡ plainly (directive_step most program s (Exec n))
  plain_execution e = plain_at (slice_get s.buffer n) refl e

  waits_at : (o : Option Entry) → execution_where program s n o ≡ execution.Waits → exec_at most program s n o ≡ None
  waits_at None e = refl
  waits_at (Some entry) e = ap (stepped plain s n entry.position) e

  pub waits_execution : execution_at program s n ≡ execution.Waits → forward_step most program s (Exec n) ≡ None
  waits_execution e = waits_at (slice_get s.buffer n) e

  module _ (work : Work) (seen : Seen) where
    fills_at : (o : Option Entry) → execution_where program s n o ≡ execution.Fills work seen
        → (entry : Entry) × (o ≡ Some entry) × (exec_at most program s n o ≡ Some (become n entry.position work s, seen))
    fills_at None e = cc
    fills_at (Some entry) e = (entry, refl, ap (stepped plain s n entry.position) e)

    pub fills_execution : execution_at program s n ≡ execution.Fills work seen
        → (entry : Entry) × (slice_get s.buffer n ≡ Some entry) × (forward_step most program s (Exec n) ≡ Some (become n entry.position work s, seen))
    fills_execution e = fills_at (slice_get s.buffer n) e

    pub fills_within : execution_at program s n ≡ execution.Fills work seen → n < length s.buffer
    fills_within e = let at = fills_execution e in within most s.buffer n at.0 at.1

    -- the machine with that entry's new work
    pub filled_step : (new : State) → execution_at program s n ≡ execution.Fills work seen
        → ((entry : Entry) → slice_get s.buffer n ≡ Some entry → new ≡ become n entry.position work s) → forward_step most program s (Exec n) ≡ Some (new, seen)
    filled_step new e becomes = let at = fills_execution e in at.2 ∙ ap (λ t. Some (t, seen)) (sym (becomes at.0 at.1))

-- ---- what the buffer machine executes

pub plain_exec : (most : ℕ) (program : Program) (old new : State) (n : ℕ) (answer : Option Observation) (r : Result Observation StepError) (result : Result Seen StepError)
    → execution_at program old n ≡ execution.Plain → Executes program n old answer new → r ≡ ok_or answer NotEnabled → result ≡ answer_as Shown r
    → StepsBy forward_step most program (Exec n) old result new
plain_exec most program old new n answer r result e executed is =
    told_steps Shown forward_step most program (Exec n) old new r result (plain_execution most program old n e) (executes most program old new n answer r executed is)

pub plain_enabled : (most : ℕ) (program : Program) (s : State) (n : ℕ) (b : Bool) → execution_at program s n ≡ execution.Plain
    → b ≡ is_some (directive_step most program s (Exec n)) → b ≡ is_enabled_by forward_step most program s (Exec n)
plain_enabled most program s n b e = told_enabled Shown forward_step most program (Exec n) s b (plain_execution most program s n e)

-- ---- the room of the buffer

module _ (most : ℕ) (program : Program) (s : State) (n : ℕ) (fits : Fits most s) where
  execution_fits : (entry : Entry) (t : Execution) → slice_get s.buffer n ≡ Some entry
      → Holds (Fits most) (stepped (plainly (directive_step most program s (Exec n))) s n entry.position t)
  execution_fits entry execution.Plain is = plainly_holds (Fits most) (directive_step most program s (Exec n)) (step_fits most program s (Exec n) fits)
  execution_fits entry execution.Waits is = tt
  execution_fits entry (execution.Fills work seen) is = acted_fits most s n entry (Becomes work Nothing) (within most s.buffer n entry is) fits

  exec_fits : (o : Option Entry) → slice_get s.buffer n ≡ o → Holds (Fits most) (exec_at most program s n o)
  exec_fits None is = tt
  exec_fits (Some entry) is = execution_fits entry (execution_of program s (take n s.buffer) entry.work) is

-- an entry that is executed leaves no more entries
pub exec_few : (program : Program) (n : ℕ) (old new : State) (result : Result Seen StepError) → ((most : ℕ) → StepsBy forward_step most program (Exec n) old result new)
    → length new.buffer ≤ length old.buffer
exec_few program n old new result steps =
    let most = length old.buffer in
    comes_fit most (forward_step most program old (Exec n)) (NeedsMemory (Exec n)) old new result (omega arith)
    (exec_fits most program old n (omega arith) (slice_get old.buffer n) refl) (steps most)

-- each directive keeps the buffer along the plain run
pub forward_keeps : (most : ℕ) (program : Program) → IsProgram program → IsWellFormed program → KeepAll (forward_step most program) program
forward_keeps most program facts rules function start fits s d =
    forward_ok program facts rules (plain_opening program function start) (opened_by program facts rules function start fits) most s d

-- ---- forwarded numbers

-- a number that is found has no more bytes than are loaded
abbrev pub IsWithin : ℕ → Found → Type 0
IsWithin width Memory = Unit {0}
IsWithin width (Stored number) = number < 2 ^ (8 * width)
IsWithin width Blocked = Unit {0}

module _ (program : Program) (from width : ℕ) where
  by_tests : (at count number : ℕ) (found : Found) (b c : Bool) → (nat_eq at from && nat_eq count width) ≡ c → number < 2 ^ (8 * count) → IsWithin width found
      → IsWithin width (if b then (if c then Stored number else Blocked) else found)
  by_tests at count number found true true e small h =
      subst (λ k. number < 2 ^ (8 * k)) (eqb-true count width (each_true (nat_eq at from) (nat_eq count width) e).1) small
  by_tests at count number found true false e small h = tt
  by_tests at count number found false c e small h = h

  one_within : (work : Work) (found : Found) → IsWithin width found → IsWithin width (supplied program from width work found)
  one_within (Ready kind memory offset address value) found h =
      by_tests (effective program memory offset address) (width_of kind) (narrowed kind value) found _ _ refl (store_fits kind value) h
  one_within _ found h = h

  all_within : (entries : List Entry) (found : Found) → IsWithin width found → IsWithin width (found_from program from width entries found)
  all_within [] found h = h
  all_within (entry ∷ entries) found h = all_within entries (supplied program from width entry.work found) (one_within entry.work found h)

  within_by : (entries : List Entry) (number : ℕ) (pending : Bool) → (if pending then None else Some (found_in program from width entries)) ≡ Some (Stored number)
      → number < 2 ^ (8 * width)
  within_by entries number true e = cc
  within_by entries number false e =
      let is : found_in program from width entries ≡ Stored number = cc in subst (IsWithin width) is (all_within entries Memory tt)

  pub stored_within : (entries : List Entry) (number : ℕ) → found_behind program from width entries ≡ Some (Stored number) → number < 2 ^ (8 * width)
  stored_within entries number e = within_by entries number (has_pending entries) e
