-- `spec`: its job, and what is said where it is done.
use Rattle.std.specs.Prelude.{◌≡◌, ℕ, ◌++◌, List, [], ◌∷◌, codes, Option, Some, None}
use Rattle.std.specs.Fmt.{decimal}
use Rattle.std.specs.List.{flat_map}
use Rattle.bl_base.specs.Runs.{Outcome}
use Rattle.bl_base.specs.declared.quantity.Quantity.TheVariants as quantity
use Rattle.bl_program.specs.Outcomes.{plain}
use Rattle.bl_rob.specs.CallResults.{outcome_in}
use Rattle.bl_rob.specs.Machines.{State}
use Rattle.bl_rob.specs.Observations.{Observed, observed, reached}
use Rattle.bl_rob.specs.declared.directive.Observation.{Observation}
use Rattle.bl_trace.specs.Observations.{observation_text}
use Rattle.bl_outcome.specs.Lines.{line}
use Rattle.bl_build.specs.EntryStages.{Entered}
use Rattle.bl_app.specs.RunJob.{image_read, plain_text}
use Rattle.bl_app.specs.InterpJob.{start_read}
use Rattle.bl_job.specs.Jobs.{Job, Plan, Read, saying}
use Rattle.bl_words.specs.Requests.{SpecRequest}
use Rattle.bl_job.specs.StagedJobs.{Staged, all_read, file, staged_job}
use Rattle.bl_job.specs.declared.status.Status.{Status}
use Rattle.bl_job.specs.declared.status.Status.TheVariants.{Done, Stuck}
use Rattle.bl_build.specs.TraceStages.{Speculated, speculating}

-- ---- what is observed

-- what is observed of the directives, where the buffer has room for 64 entries
abbrev pub seen_of : Speculated → Observed Observation
seen_of speculated =
    let entered = speculated.entered in
    observed 64 entered.entry.program entered.entry.function entered.start speculated.directives

-- the machine behind them
abbrev pub state_of : Speculated → State
state_of speculated =
    let entered = speculated.entered in
    reached 64 entered.entry.program entered.entry.function entered.start speculated.directives

-- its outcome, if it has ended
abbrev pub ended_of : Speculated → Option Outcome
ended_of speculated = outcome_in speculated.entered.entry.program (state_of speculated)

-- what is said of the machine where each directive is enabled
abbrev pub end_text : Entered → Option Outcome → List ℕ
end_text entered (Some outcome) = plain_text entered 0 (Some outcome)
end_text entered None = line (codes "pending")

-- what is said last: the place of the first directive that isn't enabled, or else what is said of the machine
abbrev pub last_text : Entered → Option Outcome → Option ℕ → List ℕ
last_text entered outcome (Some place) = line (codes "stuck " ++ decimal place)
last_text entered outcome None = end_text entered outcome

-- a line for each directive that is enabled, and what is said last
abbrev pub spec_text : Speculated → List ℕ
spec_text speculated =
    flat_map observation_text (seen_of speculated).made
    ++ last_text speculated.entered (ended_of speculated) (seen_of speculated).refused

abbrev pub spec_status : Option ℕ → Status
spec_status (Some place) = Stuck
spec_status None = Done

abbrev pub spec_plan : Speculated → Plan
spec_plan speculated = saying (spec_status (seen_of speculated).refused) (spec_text speculated)

-- ---- the job

-- a trace file that is read
abbrev pub trace_read : List ℕ → Read
trace_read word = record { name = word; quantity = quantity.Trace }

-- where the machine has ended, its outcome is that of the plain run after as many commands as entries were retired
abbrev pub SpecMeans : Speculated → Type 0
SpecMeans speculated =
    (outcome : Outcome) → ended_of speculated ≡ Some outcome
    → plain speculated.entered.entry.program speculated.entered.entry.function speculated.entered.start (state_of speculated).retired outcome

-- printing what is observed of the directives
abbrev pub SpecPlans : Speculated → Plan → Type 0
SpecPlans speculated plan = plan ≡ spec_plan speculated

-- an image, a trace file and a start file are read, and what is observed of the directives is printed
abbrev pub spec_staged : SpecRequest → Staged Speculated
spec_staged request = record {
  reads = image_read request.image ∷ trace_read request.trace ∷ start_read request.start ∷ [];
  keeps = [];
  reading = file (λ image. file (λ trace. file (λ start. all_read (speculating request.export trace start) image)));
  Plans = SpecPlans;
  Means = λ contents speculated plan. SpecMeans speculated;
}

abbrev pub spec_job : SpecRequest → Job
spec_job request = staged_job (spec_staged request)
