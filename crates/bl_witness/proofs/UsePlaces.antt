-- Places in rising lists of uses.
use Rattle.std.proofs.Common.{◌≡◌, ◌∙◌, ℕ, ◌+◌, ◌<◌, ◌≤◌, List, length, get_or, Some, None, slice_get, sym, ap, subst, arith, inl, inr}
use Rattle.std.specs.Prelude.{◌↔◌}
use Rattle.std.specs.List.{AllPairs, Contains}
use Rattle.std.proofs.lemmas.Bool.{cases_lt}
use Rattle.std.proofs.lemmas.Option.{none-some, slice_get-get_or, slice_get_within, get_or_from_slice_get, same_Some}
use Rattle.bl_base.proofs.Lists.{within_get}
use Rattle.bl_program.proofs.Totals.{rises_get}
use Rattle.bl_graph.specs.Graphs.{Precedes, use_of}
use Rattle.bl_graph.specs.declared.facts.Use.{Use}
use Rattle.bl_witness.specs.LookupAnswers.{IsPlaceOf}

precedes_trans : (x y z : Use) → Precedes x y → Precedes y z → Precedes x z
precedes_trans x y z (inl a) (inl b) = inl (omega arith)
precedes_trans x y z (inl a) (inr b) = inl (omega (arith, b.0))
precedes_trans x y z (inr a) (inl b) = inl (omega (arith, a.0))
precedes_trans x y z (inr a) (inr b) = inr (a.0 ∙ b.0, omega (arith, a.1, b.1))

never_self : (x : Use) → Precedes x x → ⊥
never_self x (inl a) = omega arith
never_self x (inr a) = omega (arith, a.1)

-- ---- one step of the search

module _ (uses : List Use) (m : ℕ) (one d : Use) (rise : AllPairs Precedes uses) (lt : m < length uses) where
  at_m : slice_get uses m ≡ Some (get_or uses m d)
  at_m = slice_get-get_or uses m d lt

  at_same : (k : ℕ) (u : Use) → k ≡ m → slice_get uses k ≡ Some u → get_or uses m d ≡ u
  at_same k u same stands = same_Some (get_or uses m d) u (sym at_m ∙ ap (slice_get uses) (sym same) ∙ stands)

  pub before_more : Precedes (get_or uses m d) one → (k : ℕ) (u : Use) → k < m + 1 → slice_get uses k ≡ Some u → Precedes u one
  before_more is k u less stands = elim (cases_lt k m) as (λ _. Precedes u one) [
    | inl under ↦ precedes_trans u (get_or uses m d) one (rises_get Precedes uses k m u (get_or uses m d) rise under stands at_m) is
    | inr over ↦ subst (λ v. Precedes v one) (at_same k u (omega arith) stands) is
  ]

  pub behind_more : (Precedes (get_or uses m d) one → ⊥) → (k : ℕ) (u : Use) → m ≤ k → slice_get uses k ≡ Some u → Precedes u one → ⊥
  behind_more not_before k u le stands is = elim (cases_lt m k) as (λ _. ⊥) [
    | inl under ↦ not_before (precedes_trans (get_or uses m d) u one (rises_get Precedes uses m k (get_or uses m d) u rise under at_m stands) is)
    | inr over ↦ not_before (subst (λ v. Precedes v one) (sym (at_same k u (omega arith) stands)) is)
  ]

-- ---- what stands at the place

contains_at : (uses : List Use) (k : ℕ) (u : Use) → slice_get uses k ≡ Some u → Contains uses u
contains_at uses k u stands = (k, slice_get_within uses k u stands, get_or_from_slice_get uses k u u stands)

at_contains : (uses : List Use) (u : Use) → Contains uses u → (k : ℕ) × (slice_get uses k ≡ Some u)
at_contains uses u h = (h.0, slice_get-get_or uses h.0 u h.1 ∙ ap Some h.2)

module _ (uses : List Use) (one : Use) (place : ℕ) (rise : AllPairs Precedes uses) (is : IsPlaceOf uses one place) where
  place_within : (k : ℕ) → slice_get uses k ≡ Some one → place ≤ k
  place_within k stands = elim (cases_lt k place) as (λ _. place ≤ k) [
    | inl under ↦ absurd (never_self one (is.before k one under stands))
    | inr over ↦ over
  ]

  pub listed_none : slice_get uses place ≡ None → Contains uses one → ⊥
  listed_none none h =
      let at = at_contains uses one h in
      let lt = slice_get_within uses at.0 one at.1 in
      let le = place_within at.0 at.1 in
      let found = within_get uses place (omega arith) in
      none-some found.0 (sym none ∙ found.1)

  pub listed_one : (found : Use) → slice_get uses place ≡ Some found → (found ≡ one) ↔ Contains uses one
  listed_one found there = (
    λ same. contains_at uses place one (there ∙ ap Some same),
    λ h.
        let at = at_contains uses one h in
        let le = place_within at.0 at.1 in
        elim (cases_lt place at.0) as (λ _. found ≡ one) [
          | inl under ↦ absurd (is.behind place found (omega arith) there (rises_get Precedes uses place at.0 found one rise under there at.1))
          | inr over ↦ let same : place ≡ at.0 = omega arith in same_Some found one (sym there ∙ ap (slice_get uses) same ∙ at.1)
        ],
  )

-- ---- the first use of a position

-- nothing with a lesser number stands before the least use of a position
module _ (uses : List Use) (position place : ℕ) (rise : AllPairs Precedes uses) (is : IsPlaceOf uses (use_of position 0) place) where
  low_within : (x k : ℕ) → slice_get uses k ≡ Some (use_of position x) → place ≤ k
  low_within x k stands = elim (cases_lt k place) as (λ _. place ≤ k) [
    | inl under ↦ elim (is.before k (use_of position x) under stands) as (λ _. place ≤ k) [ inl less ↦ absurd (omega arith) | inr same ↦ absurd (omega (arith, same.1)) ]
    | inr over ↦ over
  ]

  pub written_none : slice_get uses place ≡ None → (x : ℕ) → Contains uses (use_of position x) → ⊥
  written_none none x h =
      let at = at_contains uses (use_of position x) h in
      let lt = slice_get_within uses at.0 (use_of position x) at.1 in
      let le = low_within x at.0 at.1 in
      let found = within_get uses place (omega arith) in
      none-some found.0 (sym none ∙ found.1)

  pub written_other : (found : Use) → slice_get uses place ≡ Some found → (found.at.0 ≡ position → ⊥) → (x : ℕ) → Contains uses (use_of position x) → ⊥
  written_other found there other x h =
      let at = at_contains uses (use_of position x) h in
      let le = low_within x at.0 at.1 in
      elim (cases_lt place at.0) as (λ _. ⊥) [
        | inl under ↦ elim (rises_get Precedes uses place at.0 found (use_of position x) rise under there at.1) as (λ _. ⊥) [
          | inl less ↦ is.behind place found (omega arith) there (inl less)
          | inr same ↦ other same.0
        ]
        | inr over ↦
            let e : place ≡ at.0 = omega arith in
            other (ap (λ (u : Use). u.at.0) (same_Some found (use_of position x) (sym there ∙ ap (slice_get uses) e ∙ at.1)))
      ]
