-- `run`: its job, and what is said where it is done.
use Rattle.std.specs.Prelude.{◌≡◌, ℕ, List, [], ◌∷◌, length, Option, Some, None}
use Rattle.bl_base.specs.Runs.{IsWithin, Outcome}
use Rattle.bl_base.specs.declared.quantity.Quantity.TheVariants as quantity
use Rattle.bl_program.specs.Outcomes.{first_memories, plain}
use Rattle.bl_counts.specs.CountFiles.{counts_text}
use Rattle.bl_counts.specs.RunCounts.{counts_of}
use Rattle.bl_outcome.specs.Outcomes.{outcome_text}
use Rattle.bl_build.specs.EntryStages.{Entered, entering}
use Rattle.bl_app.specs.InterpJob.{start_read}
use Rattle.bl_job.specs.Jobs.{Plan, Read}
use Rattle.bl_app.specs.Outcomes.{outcome_status}
use Rattle.bl_words.specs.Requests.{RunRequest, file_named}
use Rattle.bl_job.specs.StagedJobs.{Makes, Staged, all_read, contents_stage, file}

-- an image that is read
abbrev pub image_read : List ℕ → Read
image_read word = record { name = word; quantity = quantity.Image }

-- the plain run of a function has that outcome within so many steps, or none within them
abbrev pub HasPlainOutcome : Entered → ℕ → Option Outcome → Type 0
HasPlainOutcome entered steps outcome = IsWithin (plain entered.entry.program entered.entry.function entered.start) steps outcome

-- the text of the outcome, by the types of the results and the memories at the start
abbrev pub plain_text : Entered → ℕ → Option Outcome → List ℕ
plain_text entered steps outcome =
    outcome_text entered.entry.defined.results (first_memories entered.entry.program entered.start) steps outcome

-- the count file of the plain run within so many steps: the program's number of commands, and how often each site was executed
abbrev pub counts_told : Entered → ℕ → List ℕ
counts_told entered steps =
    counts_text (length entered.entry.program.commands)
    (counts_of entered.entry.program entered.entry.function entered.start steps)

-- that file under its name, where one is asked for
abbrev pub counts_kept : Entered → ℕ → Option (List ℕ) → List (List ℕ × List ℕ)
counts_kept entered steps None = []
counts_kept entered steps (Some word) = (word, counts_told entered steps) ∷ []

-- keeping the count file, if one is asked for, and printing an outcome of the plain run within so many steps
abbrev pub run_plan : Entered → ℕ → Option (List ℕ) → Option Outcome → Plan
run_plan entered steps counts outcome = record {
  status = outcome_status outcome;
  keeps = counts_kept entered steps counts;
  text = plain_text entered steps outcome;
}

-- a plan for the outcome of the plain run within so many steps
pub record RunPlans (steps : ℕ) (counts : Option (List ℕ)) (entered : Entered) (plan : Plan) : Type 0 where
  pub outcome : Option Outcome
  pub within : HasPlainOutcome entered steps outcome
  pub is_plan : plan ≡ run_plan entered steps counts outcome

-- an image and a start file are read; the count file of the plain run within the steps is kept, if one is asked for, and the outcome is
-- printed
abbrev pub run_staged : RunRequest → Staged Entered
run_staged request = record {
  reads = image_read request.image ∷ start_read request.start ∷ [];
  keeps = file_named request.counts;
  reading = file (λ image. file (λ start. all_read (entering request.export start) image));
  Plans = RunPlans request.steps request.counts;
  Means = λ contents entered plan. Unit {0};
}

-- what is done, by the contents of both files
abbrev pub RunDoes : RunRequest → List (List ℕ) → Plan → Type 0
RunDoes request = Makes (contents_stage (run_staged request).reading) (RunPlans request.steps request.counts)
