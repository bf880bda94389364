-- Sets of variables, and the first use of one of them.
use Rattle.std.proofs.Common.{◌≡◌, inl, inr, ℕ, ◌+◌, ◌<◌, ◌≤◌, ◌||◌, Bool, true, false, List, length, take, get_or, refl, sym, ap, subst, ◌∙◌, arith, BTreeSet}
use Rattle.std.specs.BTreeSet as sorted
use Rattle.std.specs.Cmp.{unsigned_tied}
use Rattle.std.specs.List.{AllPairs, list_any, slice_index_or}
use Rattle.std.specs.Ordering.{eq_by_cmp, nat_cmp}
use Rattle.std.specs.Prelude.{IsTrue, MatchOption, None, Option, Some, if◌then◌else◌, nat_eq}
use Rattle.std.proofs.lemmas.Bool.{cases_eq, cases_lt, eq-eqb, false≢true, ne_eqb}
use Rattle.std.proofs.lemmas.List.{get_or_default}
use Rattle.std.proofs.lemmas.List.Folds.{list_any_more}
use Rattle.bl_base.specs.declared.number.Pos.{Pos}
use Rattle.bl_program.specs.declared.definitions.ProgramParts.{ProgramParts as Program}
use Rattle.bl_graph.specs.Graphs.{IsGraph, Precedes, use_of}
use Rattle.bl_graph.specs.declared.facts.Graph.{Graph}
use Rattle.bl_graph.specs.declared.facts.Use.{Use}
use Rattle.bl_iface.specs.RoleLists.{IsFirstUse, NoUse}
use Rattle.bl_iface.specs.RoleTests.{IsFirstGiven, IsGiven}
use Rattle.bl_transient.specs.Verdicts.{asked_of}
use Rattle.bl_transient.specs.declared.asked.AskedOf.{AskedOf}

-- ---- sets

tied : (a b : ℕ) → eq_by_cmp nat_cmp a b ≡ nat_eq b a
tied a b =
    unsigned_tied a b ∙
    elim (cases_eq a b) as (λ _. nat_eq a b ≡ nat_eq b a) [
      | inl same ↦ eq-eqb a b same ∙ sym (eq-eqb b a (sym same))
      | inr other ↦ ne_eqb a b other ∙ sym (ne_eqb b a (λ e. other (sym e)))
    ]

either : (e c : Bool) → (if e then true else c) ≡ (c || e)
either true true = refl
either true false = refl
either false true = refl
either false false = refl

-- one more variable
pub given_more : (vars : List ℕ) (k d : ℕ) (m n : BTreeSet ℕ) → k < length vars → ((x : ℕ) → sorted.contains nat_cmp m x ≡ list_any (nat_eq x) (take k vars))
    → sorted.Updates nat_cmp m n (get_or vars k d) true → (x : ℕ) → sorted.contains nat_cmp n x ≡ list_any (nat_eq x) (take (k + 1) vars)
given_more vars k d m n lt so_far updates x =
    let key : ℕ = get_or vars k d in
    updates.0 x ∙ ap (λ b. if b then true else sorted.contains nat_cmp m x) (tied key x) ∙ ap (λ c. if nat_eq x key then true else c) (so_far x)
    ∙ either (nat_eq x key) (list_any (nat_eq x) (take k vars)) ∙ sym (list_any_more (nat_eq x) vars k d lt)

-- ---- the first use

module _ (test : ℕ → Bool) (uses : List Use) where
  -- none before a place
  abbrev pub NoneBefore : ℕ → Type 0
  NoneBefore k = (j : ℕ) (d : Use) → j < k → test (slice_index_or uses j d).var.0 ≡ false

  pub none_more : (k : ℕ) → NoneBefore k → (e : Use) → k < length uses → test (slice_index_or uses k e).var.0 ≡ false → NoneBefore (k + 1)
  none_more k before e within here j d lt =
      elim (cases_lt j k) as (λ _. test (slice_index_or uses j d).var.0 ≡ false) [
        | inl less ↦ before j d less
        | inr le ↦
            let same : j ≡ k = omega arith in
            ap (λ n. test (slice_index_or uses n d).var.0) same ∙ ap (λ (u : Use). test u.var.0) (get_or_default uses k d e within) ∙ here
      ]

  not_at : (j position x : ℕ) → slice_index_or uses j (use_of position x) ≡ use_of position x → test (slice_index_or uses j (use_of position x)).var.0 ≡ false → IsTrue (test x) → ⊥
  not_at j position x is cold transient = false≢true (sym cold ∙ ap (λ (u : Use). test u.var.0) is ∙ transient)

  pub first_use : (k : ℕ) → k < length uses → AllPairs Precedes uses → NoneBefore k → (u : Use) → ((d : Use) → slice_index_or uses k d ≡ u) → IsTrue (test u.var.0)
      → IsFirstUse test uses u.at.0
  first_use k lt rise before u is transient = record {
    var = u.var.0;
    stands = (k, lt, is (use_of u.at.0 u.var.0));
    passes = transient;
    least = λ other x h passes.
        elim (cases_lt h.0 k) as (λ _. u.at.0 ≤ other) [
          | inl less ↦ absurd (not_at h.0 other x h.2 (before h.0 (use_of other x) less) passes)
          | inr le ↦
              elim (cases_lt k h.0) as (λ _. u.at.0 ≤ other) [
                | inl more ↦ below other x (subst (λ v. Precedes v (use_of other x)) (is (use_of other x)) (subst (Precedes (slice_index_or uses k (use_of other x))) h.2 (rise k h.0 (use_of other x) more h.1)))
                | inr back ↦
                    let at : h.0 ≡ k = omega arith in
                    let same : use_of other x ≡ u = sym h.2 ∙ ap (λ n. slice_index_or uses n (use_of other x)) at ∙ is (use_of other x) in
                    let place : other ≡ u.at.0 = ap (λ (v : Use). v.at.0) same in
                    omega arith
              ]
        ];
  }
    where
      below : (other x : ℕ) → Precedes u (use_of other x) → u.at.0 ≤ other
      below other x h = elim h as (λ _. u.at.0 ≤ other) [ inl less ↦ omega arith | inr same ↦ let e = same.0 in omega arith ]

-- ---- sinks that read what is asked to be transient

-- the first use by a sink is the first such sink
pub first_given : (lists : AskedOf) (program : Program) (g : Graph) (test : ℕ → Bool) (found : Option Pos) → IsGraph program g
    → ((x : ℕ) → test x ≡ list_any (nat_eq x) lists.transient) → MatchOption found (NoUse test g.sinks) (λ position. IsFirstUse test g.sinks position.0)
    → MatchOption found ((position : ℕ) → IsGiven (asked_of lists) program position → ⊥) (λ position. IsFirstGiven (asked_of lists) program position.0)
first_given lists program g test None is exact none = λ position h. none position h.0 ((is.sinks.each position h.0).1 h.1) (exact h.0 ∙ h.2)
first_given lists program g test (Some place) is exact first = record {
  given = (first.var, (is.sinks.each place.0 first.var).0 first.stands, sym (exact first.var) ∙ first.passes);
  least = λ other h. first.least other h.0 ((is.sinks.each other h.0).1 h.1) (exact h.0 ∙ h.2);
}
