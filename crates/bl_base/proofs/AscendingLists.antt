-- Lists whose items rise.
use Rattle.std.proofs.Common.{◌≡◌, ℕ, zero, suc, ◌+◌, ◌-◌, ◌<◌, ◌≤◌, List, [], ◌∷◌, length, get_or, refl, sym, subst, arith}
use Rattle.std.specs.List.{AllAdjacentBelow, AllPairs}
use Rattle.std.proofs.lemmas.List.Sorted.{all_adjacent_more}

module _ {X : Type 0} where
  -- the item at a place of a list, whatever stands past its end
  pub get_same : (xs : List X) (i : ℕ) (d e : X) → i < length xs → get_or xs i d ≡ get_or xs i e
  get_same [] i d e lt = absurd (omega arith)
  get_same (x ∷ xs) zero d e lt = refl
  get_same (x ∷ xs) (suc i) d e lt = get_same xs i d e (omega arith)

  module _ (R : X → X → Type 0) where
    pub adjacent_none : (xs : List X) → AllAdjacentBelow R xs 1
    adjacent_none xs k d lt = absurd (omega arith)

    -- one item more
    pub adjacent_next : (xs : List X) (i : ℕ) (d e : X) → 1 ≤ i → i < length xs → AllAdjacentBelow R xs i → R (get_or xs (i - 1) d) (get_or xs i e) → AllAdjacentBelow R xs (i + 1)
    adjacent_next xs i d e one lt below here = all_adjacent_more xs R i (omega arith) below (λ f.
        subst (λ x. R x (get_or xs i f)) (get_same xs (i - 1) d f (omega arith)) (subst (R (get_or xs (i - 1) d)) (get_same xs i e f lt) here))

    module _ (trans : (x y z : X) → R x y → R y z → R x z) where
      -- an item and one that stands so many behind it
      apart : (xs : List X) (gap i : ℕ) (d : X) → AllAdjacentBelow R xs (length xs) → suc (gap + i) < length xs → R (get_or xs i d) (get_or xs (suc (gap + i)) d)
      apart xs zero i d below lt =
          let none : suc (0 + i) ≡ i + 1 = omega arith in
          subst (λ (k : ℕ). R (get_or xs i d) (get_or xs k d)) (sym none) (below i d (omega arith))
      apart xs (suc gap) i d below lt =
          let step : suc (gap + i) + 1 ≡ suc (suc gap + i) = omega arith in
          trans _ (get_or xs (suc (gap + i)) d) _ (apart xs gap i d below (omega arith))
          (subst (λ (k : ℕ). R (get_or xs (suc (gap + i)) d) (get_or xs k d)) step (below (suc (gap + i)) d (omega arith)))

      pub pairs_all : (xs : List X) (i : ℕ) → length xs ≤ i → AllAdjacentBelow R xs i → AllPairs R xs
      pairs_all xs high le below i j d lt within =
          let gap : suc ((j - i - 1) + i) ≡ j = omega arith in
          subst (λ (k : ℕ). R (get_or xs i d) (get_or xs k d)) gap (apart xs (j - i - 1) i d (λ k e small. below k e (omega arith)) (omega arith))

    -- two items that don't rise
    pub not_pairs : (xs : List X) (i : ℕ) (d e : X) → 1 ≤ i → i < length xs → (R (get_or xs (i - 1) d) (get_or xs i e) → ⊥) → AllPairs R xs → ⊥
    not_pairs xs i d e one lt none pairs =
        none (subst (λ x. R (get_or xs (i - 1) d) x) (get_same xs i d e lt) (pairs (i - 1) i d (omega arith) lt))

pub not_below : (a b : ℕ) → b ≤ a → a < b → ⊥
not_below a b le lt = omega arith
