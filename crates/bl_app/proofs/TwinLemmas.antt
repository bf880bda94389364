-- The command `twin` keeps the laws and answers all contents that are there.
use Rattle.std.proofs.Common.{◌≡◌, ℕ, Bool, true, false, List, refl, ap, sym, ◌∙◌, subst, arith, inl, inr, IsTrue, ◌↔◌}
use Rattle.std.proofs.lemmas.Bool.{false≢true}
use Rattle.bl_base.proofs.Classical.{either}
use Rattle.bl_program.specs.Programs.{IsProgram}
use Rattle.bl_program.specs.Rules.{IsWellFormed}
use Rattle.bl_graph.specs.Labels.{ConstantTime}
use Rattle.bl_sct.specs.Verdicts.{IsStable}
use Rattle.bl_sct.proofs.EqualObservations.{equal}
use Rattle.bl_twin.specs.TwinComparisons.{twin_text}
use Rattle.bl_twin.proofs.Comparisons.{never, told}
use Rattle.bl_twin.specs.declared.comparison.Comparison.{Comparison}
use Rattle.bl_twin.specs.declared.comparison.Comparison.TheVariants as compared
use Rattle.bl_words.specs.Requests.{TwinRequest}
use Rattle.bl_build.specs.EntryStages.{Entry, Finds, IsImaged, Starts, starting}
use Rattle.bl_build.specs.TraceStages.{Speculated, Traces, Twinned, entry_of, program_speculating, program_twinning, starting_other, twinning}
use Rattle.bl_build.proofs.EntryStageLemmas.{imaged_lawful, starting_lawful}
use Rattle.bl_build.proofs.ImagesTotal.{imaged_total, program_speculating_total, starting_total}
use Rattle.bl_build.proofs.TraceLemmas.{program_speculating_lawful}
use Rattle.bl_job.specs.Stages.{Anything, IsLawfulStage, IsTotalStage}
use Rattle.bl_job.proofs.StageLemmas.{beside_lawful, beside_total, chain_lawful, chain_total}
use Rattle.bl_job.specs.Jobs.{Plan, saying}
use Rattle.bl_app.specs.SpecJob.{seen_of}
use Rattle.bl_job.specs.Status.{kind_of, of_deed}
use Rattle.bl_app.specs.TwinJob.{StartsAgree, TwinPlans, comparison_of, other_seen, twin_staged, twin_status}
use Rattle.bl_job.specs.declared.status.Status.TheVariants.{No}
use Rattle.bl_job.proofs.StagedJobLemmas.{IsStagedCommand}

pub deed_of_twin : (comparison : Comparison) → kind_of (twin_status comparison) ≡ of_deed
deed_of_twin compared.Equal = refl
deed_of_twin compared.Stuck = refl
deed_of_twin compared.Differ = refl

-- no is said where the runs differ alone
pub no_differs : (comparison : Comparison) → twin_status comparison ≡ No → comparison ≡ compared.Differ
no_differs compared.Equal e = absurd cc
no_differs compared.Stuck e = absurd cc
no_differs compared.Differ e = refl

-- the function's program is that of an image, and it is well-formed
pub record IsOfImage (t : Twinned) : Type 0 where
  pub facts : IsProgram (entry_of t).program
  pub rules : IsWellFormed (entry_of t).program

pub of_image : (export trace start other image : List ℕ) (t : Twinned) → (twinning export trace start other).Passes image t → IsOfImage t
of_image export trace start other image t prepared =
    let program = prepared.0 in
    let imaged : IsImaged image program = prepared.1 in
    let behind = prepared.2.1 in
    let found : Finds export program behind.0 = behind.1 in
    let traces : Traces trace behind.0 behind.2.0 = behind.2.1 in
    let starts : Starts start behind.2.0.entry behind.2.2.0 = behind.2.2.1 in
    let same : program ≡ (entry_of t).program
    = sym (ap (λ (t : Twinned). (entry_of t).program) prepared.2.2.2 ∙ ap (λ (s : Speculated). s.entered.entry.program) behind.2.2.2 ∙ ap (λ (e : Entry). e.program) (starts.same_entry ∙ traces.same_entry) ∙ found.same_program) in
    record { facts = subst IsProgram same imaged.image.is_program; rules = subst IsWellFormed same imaged.rules }

safe_alike : (t : Twinned) → IsOfImage t → ConstantTime (entry_of t).program → IsStable (entry_of t).program → StartsAgree t → comparison_of t ≡ compared.Differ → ⊥
safe_alike t of constant stable agree differ =
    never (entry_of t).program (equal (entry_of t).program of.facts of.rules constant stable) 64 (omega arith) (omega arith) (entry_of t).function t.speculated.directives
    t.speculated.entered.start t.other agree differ

-- two answers to one question are one
pub one_bool : (P : Type 0) (a b : Bool) → (IsTrue a ↔ P) → (IsTrue b ↔ P) → a ≡ b
one_bool P true true s t = refl
one_bool P true false s t = let clash : false ≡ true = t.1 (s.0 refl) in cc
one_bool P false true s t = let clash : false ≡ true = s.1 (t.0 refl) in cc
one_bool P false false s t = refl

pub one_twin_plan : (t : Twinned) (p q : Plan) → TwinPlans t p → TwinPlans t q → p ≡ q
one_twin_plan t p q h k =
    let agree = one_bool (StartsAgree t) h.agree k.agree h.agrees k.agrees in
    h.is_plan ∙ ap (λ a. saying (twin_status (comparison_of t)) (twin_text a (seen_of t.speculated) (other_seen t))) agree ∙ sym k.is_plan

some_twin_plan : (t : Twinned) → ((plan : Plan) → TwinPlans t plan → ⊥) → ⊥
some_twin_plan t none =
    either (StartsAgree t) (λ cases. elim cases as (λ _. ⊥) [
      | inl alike ↦ none _ (record { agree = true; agrees = (λ e. alike, λ _. refl); is_plan = refl })
      | inr differ ↦ none _ (record { agree = false; agrees = (λ e. absurd (false≢true e), λ alike. absurd (differ alike)); is_plan = refl })
    ])

module _ (export trace start other : List ℕ) where
  pub twinning_lawful : IsLawfulStage (twinning export trace start other)
  twinning_lawful =
      imaged_lawful (program_twinning export trace start other)
      (chain_lawful (program_speculating export trace start) (starting_other other) (program_speculating_lawful export trace start) (beside_lawful _ (starting other) _ (starting_lawful other)))

  pub twinning_total : IsTotalStage Anything (twinning export trace start other)
  twinning_total =
      imaged_total (program_twinning export trace start other)
      (chain_total IsWellFormed Anything (program_speculating export trace start) (starting_other other) (program_speculating_total export trace start)
      (beside_total _ (starting other) _ Anything (starting_total other)) (λ program speculated rules passes. tt))

pub twin_staged_is : (request : TwinRequest) → IsStagedCommand (Unit {0}) (twin_staged request)
twin_staged_is request = record {
  small = (omega arith, (omega arith, (omega arith, (omega arith, tt))));
  lawful = λ image trace start other. twinning_lawful request.export trace start other;
  total = λ given image trace start other. (twinning_total request.export trace start other).always image tt;
  one_status = λ t p q h k. ap (λ plan. plan.status) (one_twin_plan t p q h k);
  status_of_deed = λ t plan h. ap (λ p. kind_of p.status) h.is_plan ∙ deed_of_twin (comparison_of t);
  keeps_named = λ t plan h. inr (ap (λ p. p.keeps) h.is_plan);
  means = λ image trace start other t prepared plan h. record {
    tells = told 64 (entry_of t).program (entry_of t).function t.speculated.directives t.speculated.entered.start t.other;
    safe = λ constant stable agree says. safe_alike t (of_image request.export trace start other image t prepared) constant stable agree (no_differs (comparison_of t) (sym (ap (λ p. p.status) h.is_plan) ∙ says));
  };
  planned = λ image trace start other t prepared. some_twin_plan t;
}
