-- What stands at a place of a list, behind a change.
use Rattle.std.proofs.Common.{◌≡◌, ◌⊎◌, inl, inr, ℕ, zero, suc, ◌+◌, ◌<◌, ◌≤◌, List, [], ◌∷◌, ◌++◌, length, set, get_or, replicate, Some, slice_get, refl, sym, ap, ◌∙◌, subst, arith}
use Rattle.std.proofs.lemmas.Option.{none-some, same_Some, slice_get-get_or}

module _ {X : Type 0} where
  pub set_length : (xs : List X) (i : ℕ) (x : X) → length (set xs i x) ≡ length xs
  set_length [] i x = refl
  set_length (z ∷ xs) zero x = refl
  set_length (z ∷ xs) (suc i) x = ap suc (set_length xs i x)

  pub set_at : (xs : List X) (i : ℕ) (x : X) → i < length xs → slice_get (set xs i x) i ≡ Some x
  set_at [] i x lt = absurd (omega arith)
  set_at (z ∷ xs) zero x lt = refl
  set_at (z ∷ xs) (suc i) x lt = set_at xs i x (omega arith)

  -- at the place that is set stands the item, and at any other one what stood there
  pub set_cases : (xs : List X) (i j : ℕ) (x y : X) → slice_get (set xs i x) j ≡ Some y → ((j ≡ i) × (y ≡ x)) ⊎ ((j ≡ i → ⊥) × (slice_get xs j ≡ Some y))
  set_cases [] i j x y e = absurd (none-some y e)
  set_cases (z ∷ xs) zero zero x y e = inl (refl, sym (same_Some x y e))
  set_cases (z ∷ xs) zero (suc j) x y e = inr (λ s. omega (arith, s), e)
  set_cases (z ∷ xs) (suc i) zero x y e = inr (λ s. omega (arith, s), e)
  set_cases (z ∷ xs) (suc i) (suc j) x y e = elim (set_cases xs i j x y e) as (λ _. ((suc j ≡ suc i) × (y ≡ x)) ⊎ ((suc j ≡ suc i → ⊥) × (slice_get (z ∷ xs) (suc j) ≡ Some y))) [
    | inl same ↦ inl (ap suc same.0, same.1)
    | inr other ↦ inr (λ s. other.0 (omega (arith, s)), other.1)
  ]

  pub set_other : (xs : List X) (i j : ℕ) (x y : X) → (j ≡ i → ⊥) → slice_get xs j ≡ Some y → slice_get (set xs i x) j ≡ Some y
  set_other [] i j x y apart e = absurd (none-some y e)
  set_other (z ∷ xs) zero zero x y apart e = absurd (apart refl)
  set_other (z ∷ xs) zero (suc j) x y apart e = e
  set_other (z ∷ xs) (suc i) zero x y apart e = e
  set_other (z ∷ xs) (suc i) (suc j) x y apart e = set_other xs i j x y (λ s. apart (ap suc s)) e

  -- what stands in a list stands in one with one item more
  pub kept : (xs : List X) (x : X) (i : ℕ) (y : X) → slice_get xs i ≡ Some y → slice_get (xs ++ x ∷ []) i ≡ Some y
  kept [] x i y e = absurd (none-some y e)
  kept (z ∷ xs) x zero y e = e
  kept (z ∷ xs) x (suc i) y e = kept xs x i y e

  pub at_end : (xs : List X) (x : X) → slice_get (xs ++ x ∷ []) (length xs) ≡ Some x
  at_end [] x = refl
  at_end (z ∷ xs) x = at_end xs x

  pub length_end : (xs : List X) (x : X) → length (xs ++ x ∷ []) ≡ suc (length xs)
  length_end [] x = refl
  length_end (z ∷ xs) x = ap suc (length_end xs x)

  pub in_replicate : (count i : ℕ) (x y : X) → slice_get (replicate count x) i ≡ Some y → y ≡ x
  in_replicate zero i x y e = absurd (none-some y e)
  in_replicate (suc count) zero x y e = sym (same_Some x y e)
  in_replicate (suc count) (suc i) x y e = in_replicate count i x y e

  pub nothing_in : (i : ℕ) (xs : List X) (y : X) → xs ≡ [] → slice_get xs i ≡ Some y → ⊥
  nothing_in i xs y none e = none-some y (subst (λ (l : List X). slice_get l i ≡ Some y) none e)

  -- what is read at a place within
  pub read_at : (xs : List X) (i : ℕ) (d x : X) → x ≡ get_or xs i d → i < length xs → slice_get xs i ≡ Some x
  read_at xs i d x e lt = slice_get-get_or xs i d lt ∙ ap Some (sym e)

  pub none_left : (xs : List X) → length xs ≡ 0 → xs ≡ []
  none_left [] e = refl
  none_left (x ∷ xs) e = absurd (omega (arith, e))
