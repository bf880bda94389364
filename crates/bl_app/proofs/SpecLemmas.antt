-- The job of `spec` keeps the laws; what is said where it is done.
use Rattle.std.proofs.Common.{◌≡◌, ℕ, List, Option, Some, None, refl, ap, sym, ◌∙◌, subst, arith, option_map, inr}
use Rattle.std.specs.Prelude.{Ok, Err, IfOk, IsSome, Result, Vec}
use Rattle.std.specs.declared.alloc.Global.{Global}
use Rattle.bl_base.specs.Runs.{EndsAfter, Outcome, outcome_of}
use Rattle.bl_base.specs.declared.run.Run.{Run}
use Rattle.bl_base.specs.declared.start.Start.{Start}
use Rattle.bl_program.specs.declared.definitions.ProgramParts.{ProgramParts as Program}
use Rattle.bl_program.specs.Outcomes.{IsStart, opening, plain}
use Rattle.bl_program.specs.Steps.{plain_step}
use Rattle.bl_rob.specs.Machines.{State, end_in, outcome_by}
use Rattle.bl_rob.specs.Observations.{IsConsistent, IsConsistentBy}
use Rattle.bl_rob.specs.declared.directive.End.{End}
use Rattle.bl_rob.proofs.BufferInvariant.{consistent}
use Rattle.bl_rob.specs.CallResults.{IsRunOf, outcome_in}
use Rattle.bl_build.specs.EntryStages.{Entered, Entry}
use Rattle.bl_app.specs.RunJob.{plain_text}
use Rattle.bl_words.specs.Requests.{SpecRequest}
use Rattle.bl_app.specs.SpecJob.{end_text, ended_of, last_text, seen_of, spec_plan, spec_staged, spec_status, state_of}
use Rattle.bl_build.specs.TraceStages.{Speculated, program_speculating, speculating}
use Rattle.bl_job.specs.Status.{kind_of, of_deed}
use Rattle.bl_build.proofs.EntryStageLemmas.{imaged_lawful}
use Rattle.bl_build.proofs.ImagesTotal.{imaged_total, program_speculating_total}
use Rattle.bl_build.proofs.TraceLemmas.{program_speculating_lawful, start_fits}
use Rattle.bl_job.proofs.StagedJobLemmas.{IsStagedCommand}

-- ---- the outcome of a machine that has ended

-- where a machine's state agrees with the plain run, its outcome is the plain run's
pub ended_so : (program : Program) (function : ℕ) (start : Start) → IsStart program function start → (s : State)
    → IsConsistent program (opening program function start) s → (outcome : Outcome) → outcome_in program s ≡ Some outcome → plain program function start s.retired outcome
ended_so program function start fits s agrees outcome e = by_end (end_in s) agrees e
  where
    by_end : (end : Option End) → IsConsistentBy program (opening program function start) s end → option_map (outcome_by program s) end ≡ Some outcome
        → plain program function start s.retired outcome
    by_end None c e = cc
    by_end (Some end) c e =
        let same : outcome_by program s end ≡ outcome = cc in
        record { start_fits = fits; run = subst (EndsAfter (plain_step program) s.retired (opening program function start)) same c.outcome }

module _ (export trace start image : List ℕ) (s : Speculated) (prepared : (speculating export trace start).Passes image s) where
  abbrev entry : Entry
  entry = s.entered.entry

  pub ended_plain : (outcome : Outcome) → ended_of s ≡ Some outcome → plain entry.program entry.function s.entered.start (state_of s).retired outcome
  ended_plain =
      ended_so entry.program entry.function s.entered.start (start_fits export trace start image s prepared) (state_of s)
      (consistent 64 entry.program entry.function s.entered.start s.directives)

-- ---- the job

deed_of_spec : (refused : Option ℕ) → kind_of (spec_status refused) ≡ of_deed
deed_of_spec (Some place) = refl
deed_of_spec None = refl

pub spec_staged_is : (request : SpecRequest) → IsStagedCommand (Unit {0}) (spec_staged request)
spec_staged_is request = record {
  small = (omega arith, (omega arith, (omega arith, tt)));
  lawful = λ image trace start. imaged_lawful (program_speculating request.export trace start) (program_speculating_lawful request.export trace start);
  total = λ given image trace start. (imaged_total (program_speculating request.export trace start) (program_speculating_total request.export trace start)).always image tt;
  one_status = λ s p q h k. ap (λ plan. plan.status) (h ∙ sym k);
  status_of_deed = λ s plan h. ap (λ p. kind_of p.status) h ∙ deed_of_spec (seen_of s).refused;
  keeps_named = λ s plan h. inr (ap (λ p. p.keeps) h);
  means = λ image trace start s prepared plan h. ended_plain request.export trace start image s prepared;
  planned = λ image trace start s prepared none. none (spec_plan s) refl;
}

-- ---- what is said of a machine's end

-- what is said of an outcome that there is
pub said_of : (entered : Entered) (outcome : Option Outcome) → IsSome outcome → plain_text entered 0 outcome ≡ end_text entered outcome
said_of entered (Some outcome) some = refl
said_of entered None some = cc

-- the text of a run that is told is what is said last, where each directive is enabled
pub said_run : {E : Type 0} (result : Result (Vec ℕ Global) E) (entered : Entered) (outcome : Option Outcome) (run : Run) (refused : Option ℕ) → refused ≡ None
    → IsRunOf outcome (Some run) → IfOk result (λ text. text.items ≡ plain_text entered 0 (outcome_of run)) → IfOk result (λ text. text.items ≡ last_text entered outcome refused)
said_run (Err e) entered outcome run refused none told h = tt
said_run (Ok text) entered outcome run refused none told h =
    h ∙ ap (plain_text entered 0) told.0 ∙ said_of entered outcome told.1 ∙ ap (last_text entered outcome) (sym none)
