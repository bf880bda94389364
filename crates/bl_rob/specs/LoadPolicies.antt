-- Machines that differ from the buffer machine in what executing an entry comes to, and in what they show.
use Rattle.std.proofs.Common.{◌≡◌, refl}
use Rattle.std.specs.Prelude.{Option, Some, None, Result, Ok, Err}
use Rattle.bl_rob.specs.Machines.{State}
use Rattle.bl_rob.specs.declared.directive.Directive.{Directive}
use Rattle.bl_rob.specs.declared.directive.Directive.TheVariants.{Fetch, Predict, Exec, Retire}
use Rattle.bl_rob.specs.declared.directive.Observation.{Observation}
use Rattle.bl_rob.specs.declared.directive.StepError.{StepError}

-- a directive that executes no entry
abbrev pub IsNoExec : Directive → Type 0
IsNoExec Fetch = Unit {0}
IsNoExec (Predict predicted) = Unit {0}
IsNoExec (Exec n) = ⊥
IsNoExec Retire = Unit {0}

-- a step of the buffer machine, with what is shown of it
abbrev pub told_as : {O : Type 0} → (Observation → O) → Option (State × Observation) → Option (State × O)
told_as shows None = None
told_as shows (Some step) = Some (step.0, shows step.1)

-- what it answers, with what is shown of it
abbrev pub answer_as : {O : Type 0} → (Observation → O) → Result Observation StepError → Result O StepError
answer_as shows (Ok observation) = Ok (shows observation)
answer_as shows (Err e) = Err e

-- the buffer machine shows what is observed
pub told_itself : (step : Option (State × Observation)) → step ≡ told_as (λ observation. observation) step
told_itself None = refl
told_itself (Some step) = refl
