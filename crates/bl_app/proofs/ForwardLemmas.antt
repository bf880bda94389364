-- The command `forward` keeps the laws and answers all contents that are there.
use Rattle.std.proofs.Common.{◌≡◌, ◌↔◌, ◌++◌, ℕ, Bool, true, false, List, get_or, refl, ap, sym, ◌∙◌, arith, inl, inr, IsTrue}
use Rattle.std.proofs.lemmas.Bool.{false≢true}
use Rattle.bl_base.proofs.Classical.{either}
use Rattle.bl_forward.proofs.ForwardPairs.{forwards_equal, forwards_hide}
use Rattle.bl_forward.specs.ForwardMachines.{HasEqualForwarding, forward_step}
use Rattle.bl_forward.specs.SameSights.{seen_decided}
use Rattle.bl_forward.specs.SightTexts.{are_same, seen_text}
use Rattle.bl_forward.specs.Verdicts.{AssessesForward}
use Rattle.bl_sct.specs.declared.verdict.Verdict.{Verdict}
use Rattle.bl_sct.specs.declared.verdict.Verdict.TheVariants.{Safe, NotConstantTime, NotStable}
use Rattle.bl_sct.specs.OtherSecrets.{HidesGlobalsBy}
use Rattle.bl_twin.specs.TwinComparisons.{agreement_text, comparison_text, twin_text_by}
use Rattle.bl_twin.proofs.Comparisons.{never_by, told_by}
use Rattle.bl_twin.specs.declared.comparison.Comparison.TheVariants as compared
use Rattle.bl_words.specs.Requests.{TwinRequest}
use Rattle.bl_build.specs.TraceStages.{Twinned, entry_of}
use Rattle.bl_job.specs.Jobs.{Plan, saying}
use Rattle.bl_job.specs.Status.{kind_of}
use Rattle.bl_job.specs.declared.status.Status.TheVariants.{No}
use Rattle.bl_job.proofs.StagedJobLemmas.{IsStagedCommand}
use Rattle.bl_app.specs.ForwardJob.{BeginsWith, ForwardPlans, IsSafe, forward_comparison, forward_staged, forwarded_of, other_forwarded, safe_text}
use Rattle.bl_app.specs.TwinJob.{StartsAgree, twin_status}
use Rattle.bl_app.proofs.TwinLemmas.{IsOfImage, deed_of_twin, no_differs, of_image, one_bool, twinning_lawful, twinning_total}

-- ---- one plan

-- the text behind both verdicts
abbrev text_of : Twinned → Bool → Bool → List ℕ
text_of t safe agree = safe_text safe ++ twin_text_by are_same seen_text agree (forwarded_of t) (other_forwarded t)

pub one_forward_plan : (t : Twinned) (p q : Plan) → ForwardPlans t p → ForwardPlans t q → p ≡ q
one_forward_plan t p q h k =
    let safe = one_bool (IsSafe (entry_of t).program) h.safe k.safe h.is_safe k.is_safe in
    let agree = one_bool (StartsAgree t) h.agree k.agree h.agrees k.agrees in
    h.is_plan ∙ (λ i. saying (twin_status (forward_comparison t)) (text_of t (safe i) (agree i))) ∙ sym k.is_plan

planned_with : (t : Twinned) (safe : Bool) → IsTrue safe ↔ IsSafe (entry_of t).program → ((plan : Plan) → ForwardPlans t plan → ⊥) → ⊥
planned_with t safe is_safe none =
    either (StartsAgree t) (λ cases. elim cases as (λ _. ⊥) [
      | inl alike ↦ none _ (record { safe = safe; is_safe = is_safe; agree = true; agrees = (λ e. alike, λ _. refl); is_plan = refl })
      | inr differ ↦
          none _ (record { safe = safe; is_safe = is_safe; agree = false; agrees = (λ e. absurd (false≢true e), λ alike. absurd (differ alike)); is_plan = refl })
    ])

some_forward_plan : (t : Twinned) → ((plan : Plan) → ForwardPlans t plan → ⊥) → ⊥
some_forward_plan t none =
    either (IsSafe (entry_of t).program) (λ cases. elim cases as (λ _. ⊥) [
      | inl safe ↦ planned_with t true (λ e. safe, λ _. refl) none
      | inr unsafe ↦ planned_with t false (λ e. absurd (false≢true e), λ safe. absurd (unsafe safe)) none
    ])

-- ---- what the first lines say

says_yes : (safe : Bool) (behind rest : List ℕ) → safe_text safe ++ behind ≡ safe_text true ++ rest → safe ≡ true
says_yes true behind rest e = refl
says_yes false behind rest e = let differs = ap (λ l. get_or l 5 0) e in absurd (omega (arith, differs))

both_say_yes : (safe agree : Bool) (behind rest : List ℕ) → safe_text safe ++ (agreement_text agree ++ behind) ≡ safe_text true ++ agreement_text true ++ rest
    → (safe ≡ true) × (agree ≡ true)
both_say_yes true true behind rest e = (refl, refl)
both_say_yes true false behind rest e = let differs = ap (λ l. get_or l 16 0) e in absurd (omega (arith, differs))
both_say_yes false agree behind rest e = let differs = ap (λ l. get_or l 5 0) e in absurd (omega (arith, differs))

module _ (t : Twinned) (plan : Plan) (h : ForwardPlans t plan) where
  text_is : plan.text ≡ text_of t h.safe h.agree
  text_is = ap (λ p. p.text) h.is_plan

  is_safe_by : BeginsWith (safe_text true) plan.text → IsSafe (entry_of t).program
  is_safe_by begins = h.is_safe.0 (says_yes h.safe _ begins.0 (sym text_is ∙ begins.1))

  begins_by : IsSafe (entry_of t).program → BeginsWith (safe_text true) plan.text
  begins_by safe = (_, text_is ∙ ap (λ s. text_of t s h.agree) (h.is_safe.1 safe))

  assessed_so : (verdict : Verdict) → AssessesForward (entry_of t).program verdict → verdict ≡ Safe ↔ BeginsWith (safe_text true) plan.text
  assessed_so Safe a = (λ e. begins_by (a.0, a.1), λ begins. refl)
  assessed_so (NotConstantTime chain) a = (λ e. absurd cc, λ begins. absurd (a.1 (is_safe_by begins).0))
  assessed_so (NotStable position) a = (λ e. absurd cc, λ begins. absurd (a.passes_not (is_safe_by begins).1))

  equal_so : IsOfImage t → IsSafe (entry_of t).program → HasEqualForwarding (entry_of t).program
  equal_so of safe = forwards_equal (entry_of t).program of.facts of.rules safe.0 safe.1

  hides_so : IsOfImage t → IsSafe (entry_of t).program → HidesGlobalsBy forward_step (entry_of t).program
  hides_so of safe = forwards_hide (entry_of t).program of.facts of.rules safe.0 safe.1

  forwards_alike : IsOfImage t → IsSafe (entry_of t).program → StartsAgree t → forward_comparison t ≡ compared.Differ → ⊥
  forwards_alike of safe agree differ =
      never_by are_same seen_decided forward_step (entry_of t).program (equal_so of safe) 32 (omega arith) (omega arith)
      (entry_of t).function t.speculated.directives t.speculated.entered.start t.other agree differ

  never_no : IsOfImage t → BeginsWith (safe_text true ++ agreement_text true) plan.text → plan.status ≡ No → ⊥
  never_no of begins says =
      let both = both_say_yes h.safe h.agree (comparison_text are_same seen_text (forwarded_of t) (other_forwarded t)) begins.0 (sym text_is ∙ begins.1) in
      forwards_alike of (h.is_safe.0 both.0) (h.agrees.0 both.1) (no_differs (forward_comparison t) (sym (ap (λ p. p.status) h.is_plan) ∙ says))

-- ---- the command

pub forward_staged_is : (request : TwinRequest) → IsStagedCommand (Unit {0}) (forward_staged request)
forward_staged_is request = record {
  small = (omega arith, (omega arith, (omega arith, (omega arith, tt))));
  lawful = λ image trace start other. twinning_lawful request.export trace start other;
  total = λ given image trace start other. (twinning_total request.export trace start other).always image tt;
  one_status = λ t p q h k. ap (λ plan. plan.status) (one_forward_plan t p q h k);
  status_of_deed = λ t plan h. ap (λ p. kind_of p.status) h.is_plan ∙ deed_of_twin (forward_comparison t);
  keeps_named = λ t plan h. inr (ap (λ p. p.keeps) h.is_plan);
  means = λ image trace start other t prepared plan h.
      let of = of_image request.export trace start other image t prepared in record {
        tells = told_by are_same seen_decided forward_step 32 (entry_of t).program (entry_of t).function t.speculated.directives t.speculated.entered.start t.other;
        assessed = assessed_so t plan h;
        equal = λ begins. equal_so t plan h of (is_safe_by t plan h begins);
        hides = λ begins. hides_so t plan h of (is_safe_by t plan h begins);
        safe = never_no t plan h of;
      };
  planned = λ image trace start other t prepared. some_forward_plan t;
}
