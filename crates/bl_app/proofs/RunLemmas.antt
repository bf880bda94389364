-- The outcome of a run is one; the job of `run` keeps the laws; what is said where it is done.
use Rattle.std.proofs.Common.{◌≡◌, ℕ, List, map, Option, Some, None, refl, ap, sym, ◌∙◌, arith, inl}
use Rattle.bl_base.specs.Runs.{IsWithin, Outcome, returned, trapped}
use Rattle.bl_base.proofs.RunLemmas.{run_unique}
use Rattle.bl_program.specs.Outcomes.{opening, plain}
use Rattle.bl_program.specs.Steps.{plain_step}
use Rattle.bl_build.specs.EntryStages.{Entered, entering, finding, program_entering, starting}
use Rattle.bl_app.specs.RunJob.{HasPlainOutcome, RunPlans, counts_kept, run_plan, run_staged}
use Rattle.bl_job.specs.Jobs.{Plan}
use Rattle.bl_app.specs.Outcomes.{outcome_status}
use Rattle.bl_words.specs.Requests.{RunRequest, file_named}
use Rattle.bl_job.specs.Status.{kind_of, of_deed}
use Rattle.bl_build.proofs.EntryStageLemmas.{finding_lawful, imaged_lawful, starting_lawful}
use Rattle.bl_build.proofs.ImagesTotal.{finding_total, imaged_total, starting_total}
use Rattle.bl_program.specs.Rules.{IsWellFormed}
use Rattle.bl_job.specs.Stages.{Anything, IsLawfulStage, IsTotalStage}
use Rattle.bl_job.proofs.StageLemmas.{chain_lawful, chain_total}
use Rattle.bl_job.proofs.StagedJobLemmas.{IsStagedCommand}

-- ---- runs

-- where runs end with one outcome, they have one within so many steps
pub one_within : (ends_with : ℕ → Outcome → Type 0) (steps : ℕ) → ((m n : ℕ) (o p : Outcome) → ends_with m o → ends_with n p → o ≡ p)
    → (a b : Option Outcome) → IsWithin ends_with steps a → IsWithin ends_with steps b → a ≡ b
one_within ends_with steps one (Some o) (Some p) h i = ap Some (one h.0 i.0 o p h.1 i.1)
one_within ends_with steps one (Some o) None h i = absurd (i h.0 o h.1 h.2)
one_within ends_with steps one None (Some p) h i = absurd (h i.0 p i.1 i.2)
one_within ends_with steps one None None h i = refl

one_outcome : (entered : Entered) (steps : ℕ) (a b : Option Outcome) → HasPlainOutcome entered steps a → HasPlainOutcome entered steps b → a ≡ b
one_outcome entered steps =
    one_within (plain entered.entry.program entered.entry.function entered.start) steps
    (λ m n o p h i. (run_unique (plain_step entered.entry.program) m n (opening entered.entry.program entered.entry.function entered.start) o p h.run i.run).1)

pub deed_of_run : (outcome : Option Outcome) → kind_of (outcome_status outcome) ≡ of_deed
deed_of_run (Some (returned values memories)) = refl
deed_of_run (Some (trapped kind memories)) = refl
deed_of_run None = refl

-- a run has one plan
pub one_run_plan : (steps : ℕ) (counts : Option (List ℕ)) (entered : Entered) (p q : Plan) → RunPlans steps counts entered p → RunPlans steps counts entered q → p ≡ q
one_run_plan steps counts entered p q h k =
    h.is_plan ∙ ap (run_plan entered steps counts) (one_outcome entered steps h.outcome k.outcome h.within k.within) ∙ sym k.is_plan

-- runs have an outcome within so many steps, or none
pub some_within : (ends_with : ℕ → Outcome → Type 0) (steps : ℕ) → ((outcome : Option Outcome) → IsWithin ends_with steps outcome → ⊥) → ⊥
some_within ends_with steps none = none None (λ count outcome ends le. none (Some outcome) (count, ends, le))

pub entering_lawful : (export start : List ℕ) → IsLawfulStage (entering export start)
entering_lawful export start = imaged_lawful (program_entering export start) (chain_lawful (finding export) (starting start) (finding_lawful export) (starting_lawful start))

pub entering_total : (export start : List ℕ) → IsTotalStage Anything (entering export start)
entering_total export start =
    imaged_total (program_entering export start) (chain_total IsWellFormed Anything (finding export) (starting start) (finding_total export) (starting_total start) (λ program entry rules found. tt))

-- the count file is kept under its name
kept_named : (entered : Entered) (steps : ℕ) (counts : Option (List ℕ)) → map (λ keep. keep.0) (counts_kept entered steps counts) ≡ file_named counts
kept_named entered steps None = refl
kept_named entered steps (Some word) = refl

pub run_staged_is : (request : RunRequest) → IsStagedCommand (Unit {0}) (run_staged request)
run_staged_is request = record {
  small = (omega arith, (omega arith, tt));
  lawful = λ image start. entering_lawful request.export start;
  total = λ given image start. (entering_total request.export start).always image tt;
  one_status = λ entered p q h k. ap (λ plan. plan.status) (one_run_plan request.steps request.counts entered p q h k);
  status_of_deed = λ entered plan h. ap (λ p. kind_of p.status) h.is_plan ∙ deed_of_run h.outcome;
  keeps_named = λ entered plan h. inl (ap (λ p. map (λ keep. keep.0) p.keeps) h.is_plan ∙ kept_named entered request.steps request.counts);
  means = λ image start entered prepared plan h. tt;
  planned = λ image start entered prepared none.
      some_within (plain entered.entry.program entered.entry.function entered.start) request.steps
      (λ outcome within. none _ (record { outcome = outcome; within = within; is_plan = refl }));
}
