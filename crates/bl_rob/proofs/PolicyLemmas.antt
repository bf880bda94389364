-- Steps of a machine, from those of the buffer machine and from what executing an entry comes to.
use Rattle.std.proofs.Common.{◌≡◌, ℕ, ◌≤◌, length, Option, Some, None, refl, sym, ap, ◌∙◌, subst, arith}
use Rattle.std.specs.Prelude.{Bool, Result, Ok, Err}
use Rattle.std.specs.Option.{ok_or}
use Rattle.bl_program.specs.declared.definitions.ProgramParts.{ProgramParts as Program}
use Rattle.bl_rob.specs.CallResults.{ComesBy, Executes, NeedsMemory, Steps, StepsBy, is_enabled_by, is_some}
use Rattle.bl_rob.specs.LoadPolicies.{answer_as, told_as}
use Rattle.bl_rob.specs.Machines.{State, directive_step}
use Rattle.bl_rob.specs.Observations.{Rules}
use Rattle.bl_rob.specs.ReachableStates.{IsReachedBy}
use Rattle.bl_rob.specs.declared.directive.Directive.{Directive}
use Rattle.bl_rob.specs.declared.directive.Directive.TheVariants.{Exec}
use Rattle.bl_rob.specs.declared.directive.Observation.{Observation}
use Rattle.bl_rob.specs.declared.directive.StepError.{StepError}
use Rattle.bl_rob.specs.declared.directive.StepError.TheVariants.{NotEnabled, Memory}
use Rattle.bl_rob.proofs.BufferRoom.{Fits, comes_fit, executes, step_fits}
use Rattle.bl_rob.proofs.ReachabilityLemmas.{steps_reach}

module _ {O : Type 0} (shows : Observation → O) where
  told_comes : (step : Option (State × Observation)) (needs : Type 0) (old new : State) (r : Result Observation StepError) → ComesBy step needs old r new
      → ComesBy (told_as shows step) needs old (answer_as shows r) new
  told_comes step needs old new (Ok observation) h = ap (told_as shows) h
  told_comes step needs old new (Err NotEnabled) h = (ap (told_as shows) h.0, h.1)
  told_comes step needs old new (Err Memory) h = h

  some_told : (o : Option (State × Observation)) → is_some (told_as shows o) ≡ is_some o
  some_told None = refl
  some_told (Some step) = refl

  module _ (rules : ℕ → Program → Rules O) (most : ℕ) (program : Program) (d : Directive) where
    abbrev IsTold : State → Type 0
    IsTold old = rules most program old d ≡ told_as shows (directive_step most program old d)

    -- a step of the buffer machine is one of this machine
    pub told_steps : (old new : State) (r : Result Observation StepError) (result : Result O StepError) → IsTold old → Steps most program d old r new
        → result ≡ answer_as shows r → StepsBy rules most program d old result new
    told_steps old new r result is steps e =
        subst (λ x. ComesBy x (NeedsMemory d) old result new) (sym is)
        (subst (λ x. ComesBy (told_as shows (directive_step most program old d)) (NeedsMemory d) old x new) (sym e)
        (told_comes (directive_step most program old d) (NeedsMemory d) old new r steps))

    -- and leaves what is reached, within the room
    pub told_kept : (old new : State) (r : Result Observation StepError) (result : Result O StepError) → Fits most old → IsReachedBy (rules most program) program old
        → IsTold old → Steps most program d old r new → result ≡ answer_as shows r → Fits most new × IsReachedBy (rules most program) program new
    told_kept old new r result fits reached is steps e = (
      comes_fit most (directive_step most program old d) (NeedsMemory d) old new r fits (step_fits most program old d fits) steps,
      steps_reach (rules most program) program old new d (NeedsMemory d) result reached (told_steps old new r result is steps e),
    )

    pub told_enabled : (s : State) (b : Bool) → IsTold s → b ≡ is_some (directive_step most program s d) → b ≡ is_enabled_by rules most program s d
    told_enabled s b is e = e ∙ sym (ap is_some is ∙ some_told (directive_step most program s d))

-- an entry that is executed leaves what is reached, within the room
pub exec_kept : {O : Type 0} (rules : ℕ → Program → Rules O) (most : ℕ) (program : Program) (n : ℕ) (old new : State) (result : Result O StepError) → Fits most old
    → IsReachedBy (rules most program) program old → length new.buffer ≤ length old.buffer → StepsBy rules most program (Exec n) old result new
    → Fits most new × IsReachedBy (rules most program) program new
exec_kept rules most program n old new result fits reached few steps =
    (omega (arith, fits, few), steps_reach (rules most program) program old new (Exec n) (NeedsMemory (Exec n)) result reached steps)

-- what the buffer machine executes leaves no more entries
pub executes_few : (program : Program) (n : ℕ) (old new : State) (answer : Option Observation) (result : Result Observation StepError) → Executes program n old answer new
    → result ≡ ok_or answer NotEnabled → length new.buffer ≤ length old.buffer
executes_few program n old new answer result executed is =
    let most = length old.buffer in
    comes_fit most (directive_step most program old (Exec n)) (NeedsMemory (Exec n)) old new result (omega arith) (step_fits most program old (Exec n) (omega arith))
    (executes most program old new n answer result executed is)
