-- `interp`: its job, and what is said where it is done.
use Rattle.std.specs.Prelude.{◌≡◌, ℕ, List, [], ◌∷◌, map, Option}
use Rattle.bl_base.specs.Runs.{IsWithin, Outcome}
use Rattle.bl_base.specs.declared.quantity.Quantity.TheVariants as quantity
use Rattle.bl_reduce.specs.Outcomes.{first_store, source}
use Rattle.bl_outcome.specs.Outcomes.{outcome_text}
use Rattle.bl_job.specs.Jobs.{Plan, Read, saying}
use Rattle.bl_app.specs.CompileJobs.{module_read}
use Rattle.bl_build.specs.LoadStages.{parts_of}
use Rattle.bl_app.specs.Outcomes.{outcome_status}
use Rattle.bl_words.specs.Requests.{InterpRequest}
use Rattle.bl_build.specs.InvocationStages.{Invoked, preparing}
use Rattle.bl_job.specs.StagedJobs.{Makes, Staged, contents_stage, file, others}

-- a start file
abbrev pub start_read : List ℕ → Read
start_read word = record { name = word; quantity = quantity.Start }

-- the run of a function has that outcome within so many steps, or none within them
abbrev pub HasOutcome : Invoked → ℕ → Option Outcome → Type 0
HasOutcome invoked steps outcome = IsWithin (source invoked.tree invoked.function invoked.start) steps outcome

-- the text of the outcome, by the types of the results and the memories at the start
abbrev pub printed_of : Invoked → ℕ → Option Outcome → List ℕ
printed_of invoked steps outcome = outcome_text invoked.type.results (first_store invoked.tree invoked.start).memories steps outcome

-- printing the outcome of the run within so many steps
pub record InterpPlans (steps : ℕ) (invoked : Invoked) (plan : Plan) : Type 0 where
  pub outcome : Option Outcome
  pub within : HasOutcome invoked steps outcome
  pub is_plan : plan ≡ saying (outcome_status outcome) (printed_of invoked steps outcome)

-- a start file and modules are read, and the outcome of the run within the steps is printed
abbrev pub interp_staged : InterpRequest → Staged Invoked
interp_staged request = record {
  reads = start_read request.start ∷ map module_read request.modules;
  keeps = [];
  reading = file (λ start. others (preparing request.export start) (parts_of request.modules));
  Plans = InterpPlans request.steps;
  Means = λ contents invoked plan. Unit {0};
}

-- what is done, by the contents of all files
abbrev pub InterpDoes : InterpRequest → List (List ℕ) → Plan → Type 0
InterpDoes request = Makes (contents_stage (interp_staged request).reading) (InterpPlans request.steps)
