-- A set of positions that is filled one position at a time.
use Rattle.std.proofs.Common.{◌≡◌, ℕ, ◌+◌, ◌≤◌, Bool, true, false, sym, ap, ◌∙◌, arith, inl, inr, ◌&&◌, ◌||◌, nat_lt}
use Rattle.std.specs.FinSet as fin
use Rattle.std.specs.FinSet.{FinSet, contains-insert, contains-empty}
use Rattle.std.specs.Ordering.{nat_cmp, eq_by_cmp}
use Rattle.std.specs.Cmp.{nat_cmp_total, unsigned_tied}
use Rattle.std.proofs.lemmas.Bool.{cases_eq, cases_lt, lt-ltb, le-ltb, and_left, and_from, and_right, ne_eqb, eq-eqb}

module _ (is_one : ℕ → Bool) where
  -- the set has those below a position
  abbrev pub HoldsBelow : FinSet nat_cmp → ℕ → Type 0
  HoldsBelow set n = (t : ℕ) → fin.contains set t ≡ (nat_lt t n && is_one t)

  pub below_none : HoldsBelow fin.empty 0
  below_none t = contains-empty nat_cmp t ∙ sym (and_left (nat_lt t 0) (is_one t) (le-ltb t 0 (omega arith)))

  elsewhere : (t s : ℕ) → (t ≡ s → ⊥) → nat_lt t s ≡ nat_lt t (s + 1)
  elsewhere t s other =
      elim (cases_lt t s) as (λ _. nat_lt t s ≡ nat_lt t (s + 1)) [
        | inl lt ↦ lt-ltb t s lt ∙ sym (lt-ltb t (s + 1) (omega arith))
        | inr le ↦ le-ltb t s le ∙ sym (le-ltb t (s + 1) (elim (cases_lt s t) as (λ _. s + 1 ≤ t) [ inl lt ↦ omega arith | inr same ↦ absurd (other (omega arith)) ]))
      ]

  -- the next position isn't one
  pub below_no : (set : FinSet nat_cmp) (s : ℕ) → HoldsBelow set s → is_one s ≡ false → HoldsBelow set (s + 1)
  below_no set s holds e t =
      elim (cases_eq t s) as (λ _. fin.contains set t ≡ (nat_lt t (s + 1) && is_one t)) [
        | inl same ↦
            let none : is_one t ≡ false = ap is_one same ∙ e in
            holds t ∙ (and_right (nat_lt t s) (is_one t) none ∙ sym (and_right (nat_lt t (s + 1)) (is_one t) none))
        | inr other ↦ holds t ∙ ap (λ b. b && is_one t) (elsewhere t s other)
      ]

  -- the next position is one
  pub below_yes : (set : FinSet nat_cmp) (s : ℕ) → HoldsBelow set s → is_one s ≡ true → HoldsBelow (fin.insert set s) (s + 1)
  below_yes set s holds e t =
      contains-insert nat_cmp_total set s t ∙
      elim (cases_eq t s) as (λ _. (eq_by_cmp nat_cmp t s || fin.contains set t) ≡ (nat_lt t (s + 1) && is_one t)) [
        | inl same ↦
            ap (λ b. b || fin.contains set t) (unsigned_tied t s ∙ eq-eqb t s same)
            ∙ sym (and_from (nat_lt t (s + 1)) (is_one t) (lt-ltb t (s + 1) (omega arith)) (ap is_one same ∙ e))
        | inr other ↦
            ap (λ b. b || fin.contains set t) (unsigned_tied t s ∙ ne_eqb t s other)
            ∙ (holds t ∙ ap (λ b. b && is_one t) (elsewhere t s other))
      ]
