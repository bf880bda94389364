-- `predict`: its job, and what is said where it is done.
use Rattle.std.specs.Prelude.{◌≡◌, ◌↔◌, ◌≤◌, ℕ, Bool, true, false, IsTrue, List, [], ◌∷◌, ◌++◌, codes, length, Option, Some}
use Rattle.std.specs.Fmt.{decimal}
use Rattle.bl_base.specs.Quantity.{limit_of}
use Rattle.bl_base.specs.Runs.{Outcome}
use Rattle.bl_base.specs.declared.quantity.Quantity.TheVariants as quantity
use Rattle.bl_base.specs.declared.start.Start.{Start}
use Rattle.bl_program.specs.Outcomes.{Agree, plain}
use Rattle.bl_program.specs.declared.definitions.ProgramParts.{ProgramParts as Program}
use Rattle.bl_outcome.specs.Lines.{line}
use Rattle.bl_predict.specs.Drives.{AreSame, DriveState, begun, driven}
use Rattle.bl_predict.specs.declared.driver.Driven.{Driven}
use Rattle.bl_rob.specs.CallResults.{outcome_in}
use Rattle.bl_sct.specs.OtherSecrets.{HasOtherSecrets}
use Rattle.bl_sct.specs.Verdicts.{Assesses}
use Rattle.bl_sct.specs.declared.verdict.Verdict.{Verdict}
use Rattle.bl_sct.specs.declared.verdict.Verdict.TheVariants.{Safe}
use Rattle.bl_trace.specs.Traces.{trace_text}
use Rattle.bl_words.specs.Requests.{PredictRequest, SpecRequest}
use Rattle.bl_app.specs.RunJob.{image_read, plain_text}
use Rattle.bl_app.specs.ForwardJob.{BeginsWith, IsSafe}
use Rattle.bl_app.specs.InterpJob.{start_read}
use Rattle.bl_app.specs.Outcomes.{outcome_status}
use Rattle.bl_app.specs.SpecJob.{end_text, spec_job}
use Rattle.bl_build.specs.EntryStages.{Entered, entering}
use Rattle.bl_job.specs.Jobs.{Job, Plan}
use Rattle.bl_job.specs.StagedJobs.{Staged, all_read, file, staged_job}
use Rattle.bl_job.specs.declared.status.Status.TheVariants.{Done}

-- ---- the drive

-- the function is driven from the start, for at most so many steps
abbrev pub driven_of : ℕ → Entered → DriveState
driven_of steps entered = driven entered.entry.program steps (begun entered.entry.program entered.entry.function entered.start)

-- its outcome, if the machine has ended
abbrev pub drive_outcome : ℕ → Entered → Option Outcome
drive_outcome steps entered = outcome_in entered.entry.program (driven_of steps entered).state

-- ---- the text

-- a word and a count
abbrev pub counted_text : List ℕ → ℕ → List ℕ
counted_text word count = word ++ decimal count

-- how many directives were chosen, and what was met on the way
abbrev pub met_text : (directives rollbacks hits misses : ℕ) → List ℕ
met_text directives rollbacks hits misses =
    counted_text (codes "directives ") directives
    ++ counted_text (codes " rollbacks ") rollbacks
    ++ counted_text (codes " hits ") hits
    ++ counted_text (codes " misses ") misses
    ++ 10 ∷ []

abbrev pub met : DriveState → List ℕ
met d = met_text (length d.trace) d.rollbacks d.hits d.misses

abbrev pub met_by : Driven → List ℕ
met_by driven = met_text (length driven.trace) driven.rollbacks driven.hits driven.misses

abbrev pub alike_text : Bool → List ℕ
alike_text true = line (codes "alike yes")
alike_text false = line (codes "alike no")

-- ---- the command

-- keeping the trace file of what was chosen under its name, and printing what was met, whether the program is safe, so that other secrets give the same,
-- and the outcome
abbrev pub predict_plan : ℕ → List ℕ → Entered → Bool → Plan
predict_plan steps word entered safe = record {
  status = outcome_status (drive_outcome steps entered);
  keeps = (word, trace_text (driven_of steps entered).trace) ∷ [];
  text = met (driven_of steps entered) ++ alike_text safe ++ plain_text entered steps (drive_outcome steps entered);
}

pub record PredictPlans (steps : ℕ) (word : List ℕ) (entered : Entered) (plan : Plan) : Type 0 where
  pub safe : Bool
  pub is_safe : IsTrue safe ↔ IsSafe entered.entry.program
  pub is_plan : plan ≡ predict_plan steps word entered safe

-- the same function with another start
abbrev pub with_start : Entered → Start → Entered
with_start entered other = record { entry = entered.entry; start = other }

-- where the machine has ended, its outcome is that of the plain run after as many commands as entries were retired. The second line is `alike yes`
-- exactly where any verdict on the program is that it is safe; and where it is, each start that agrees in public with this one gives the same trace
-- and the same counts, also with the same program with other first values of its secret globals
pub record PredictMeans (steps : ℕ) (entered : Entered) (plan : Plan) : Type 0 where
  pub consistent : (outcome : Outcome) → drive_outcome steps entered ≡ Some outcome
      → plain entered.entry.program entered.entry.function entered.start (driven_of steps entered).state.retired outcome
  pub assessed : (verdict : Verdict) → Assesses entered.entry.program verdict
      → verdict ≡ Safe ↔ BeginsWith (met (driven_of steps entered) ++ alike_text true) plan.text
  pub alike : BeginsWith (met (driven_of steps entered) ++ alike_text true) plan.text → (other : Start)
      → Agree entered.entry.program entered.entry.function entered.start other
      → AreSame (driven_of steps entered) (driven_of steps (with_start entered other))
  pub hides : BeginsWith (met (driven_of steps entered) ++ alike_text true) plan.text → (program : Program) → HasOtherSecrets entered.entry.program program
      → (other : Start) → Agree entered.entry.program entered.entry.function entered.start other
      → AreSame (driven_of steps entered) (driven program steps (begun program entered.entry.function other))

-- an image and a start file are read; the trace file of the drive is kept, and what was met and the outcome are printed
abbrev pub predict_staged : PredictRequest → Staged Entered
predict_staged request = record {
  reads = image_read request.image ∷ start_read request.start ∷ [];
  keeps = request.trace ∷ [];
  reading = file (λ image. file (λ start. all_read (entering request.export start) image));
  Plans = PredictPlans request.steps request.trace;
  Means = λ contents. PredictMeans request.steps;
}

abbrev pub predict_job : PredictRequest → Job
predict_job request = staged_job (predict_staged request)

-- ---- the trace file that is kept

-- a text that ends with another one
abbrev pub EndsWith : List ℕ → List ℕ → Type 0
EndsWith last text = (front : List ℕ) × (text ≡ front ++ last)

-- `spec` of the same image, export and start file, on the trace file that is kept
abbrev pub following : PredictRequest → SpecRequest
following request = record { image = request.image; export = request.export; trace = request.trace; start = request.start }

-- the trace file that is kept is no longer than is read; and what `spec` does with it is one thing: each directive is enabled, and the same outcome
-- is told last, or that the machine hasn't ended
pub record IsFollowed (request : PredictRequest) (image start : List ℕ) (told : Plan) : Type 0 where
  pub trace : List ℕ
  pub kept : told.keeps ≡ (request.trace, trace) ∷ []
  pub short : length trace ≤ limit_of quantity.Trace
  pub plan : Plan
  pub does : (spec_job (following request)).Does (image ∷ trace ∷ start ∷ []) plan
  pub alone : (other : Plan) → (spec_job (following request)).Does (image ∷ trace ∷ start ∷ []) other → other ≡ plan
  pub done : plan.status ≡ Done
  pub entered : Entered
  pub passes : (entering request.export start).Passes image entered
  pub status : told.status ≡ outcome_status (drive_outcome request.steps entered)
  pub told_last : EndsWith (plain_text entered request.steps (drive_outcome request.steps entered)) told.text
  pub said_last : EndsWith (end_text entered (drive_outcome request.steps entered)) plan.text
  pub same : (end : Outcome) → drive_outcome request.steps entered ≡ Some end
      → end_text entered (drive_outcome request.steps entered) ≡ plain_text entered request.steps (drive_outcome request.steps entered)
