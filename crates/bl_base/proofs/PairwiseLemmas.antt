-- Lists put together whose items stand in a relation to all later ones, and what is found in them.
use Rattle.std.proofs.Common.{◌≡◌, inl, inr, ℕ, zero, suc, ◌<◌, Bool, true, false, List, [], ◌∷◌, ◌++◌, length, map, get_or, Some, slice_get, refl, sym, ap, ◌∙◌, arith}
use Rattle.std.specs.Prelude.{IsSomeAnd, cond, option_map}
use Rattle.std.specs.List.{All, AllPairs, filter, find}
use Rattle.std.proofs.lemmas.Bool.{cases_order, cond_both}
use Rattle.std.proofs.lemmas.List.Elements.{All-append, All-cons, All-head, All-map, All-nil, All-tail}
use Rattle.std.proofs.lemmas.List.Kept.{AllPairs-cons}
use Rattle.std.proofs.lemmas.Option.{get_or_from_slice_get, slice_get_within, slice_get-get_or}

-- an item that is there is within
pub some_within : {X : Type 0} (P : X → Type 0) (xs : List X) (i : ℕ) → IsSomeAnd (slice_get xs i) P → i < length xs
some_within P [] i h = absurd h
some_within P (x ∷ xs) zero h = omega arith
some_within P (x ∷ xs) (suc i) h = let rest = some_within P xs i h in omega arith

module _ {X : Type 0} (R : X → X → Type 0) where
  pub pairs_append : (xs ys : List X) → AllPairs R xs → AllPairs R ys → All (λ x. All (R x) ys) xs → AllPairs R (xs ++ ys)
  pairs_append [] ys h i cross = i
  pairs_append (x ∷ xs) ys h i cross =
      AllPairs-cons R x (xs ++ ys)
      (All-append (R x) xs ys (λ k d lt. h zero (suc k) d (omega arith) (omega arith)) (All-head (λ x. All (R x) ys) x xs cross))
      (pairs_append xs ys (λ a b d lt within. h (suc a) (suc b) d (omega arith) (omega arith)) i (All-tail (λ x. All (R x) ys) x xs cross))

  pub pairs_map : {Y : Type 0} (f : Y → X) (ys : List Y) → AllPairs (λ a b. R (f a) (f b)) ys → AllPairs R (map f ys)
  pairs_map f [] h = λ i j d lt within. absurd (omega arith)
  pairs_map f (y ∷ ys) h =
      AllPairs-cons R (f y) (map f ys)
      (All-map (R (f y)) f ys (λ k d lt. h zero (suc k) d (omega arith) (omega arith)))
      (pairs_map f ys (λ a b d lt within. h (suc a) (suc b) d (omega arith) (omega arith)))

-- what each of one list is to each of another one
pub cross : {X Y : Type 0} (P : X → Type 0) (Q : Y → Type 0) (R : X → Y → Type 0) → ((x : X) (y : Y) → P x → Q y → R x y)
    → (xs : List X) (ys : List Y) → All P xs → All Q ys → All (λ x. All (R x) ys) xs
cross P Q R each xs ys h i a d lt b e lt' = each _ _ (h a d lt) (i b e lt')

-- what passes a test
pub passes : {X : Type 0} (p : X → Bool) (xs : List X) → All (λ x. p x ≡ true) (filter p xs)
passes p [] = All-nil (λ x. p x ≡ true)
passes p (x ∷ xs) =
    let rest = passes p xs in
    cond_both (p x) (x ∷ filter p xs) (filter p xs) (All (λ x. p x ≡ true)) (λ e. All-cons (λ x. p x ≡ true) x (filter p xs) e rest) (λ _. rest)

-- items at two places are unlike, and the other way round
module _ {X Y : Type 0} (f : X → Y) where
  abbrev pub AreApart : List X → Type 0
  AreApart xs = (i j : ℕ) (a b : X) → slice_get xs i ≡ Some a → slice_get xs j ≡ Some b → f a ≡ f b → i ≡ j

  abbrev pub Unlike : X → X → Type 0
  Unlike a b = f a ≡ f b → ⊥

  pub pairs_from_apart : (xs : List X) → AreApart xs → AllPairs Unlike xs
  pairs_from_apart xs h i j d lt within same =
      let equal = h i j (get_or xs i d) (get_or xs j d) (slice_get-get_or xs i d (omega arith)) (slice_get-get_or xs j d within) same in
      omega arith

  pub apart_from_pairs : (xs : List X) → AllPairs Unlike xs → AreApart xs
  apart_from_pairs xs h i j a b at_i at_j same =
      let one : get_or xs i a ≡ a = get_or_from_slice_get xs i a a at_i in
      let other : get_or xs j a ≡ b = get_or_from_slice_get xs j b a at_j in
      let in_i = slice_get_within xs i a at_i in
      let in_j = slice_get_within xs j b at_j in
      elim (cases_order i j) as (λ _. i ≡ j) [
        | inl equal ↦ equal
        | inr apart ↦ absurd (elim apart as (λ _. ⊥) [
          | inl less ↦ h i j a less in_j (ap f one ∙ same ∙ sym (ap f other))
          | inr more ↦ h j i a more in_i (ap f other ∙ sym same ∙ sym (ap f one))
        ])
      ]

module _ {X : Type 0} (p : X → Bool) where
  -- what is found in the first of two lists, and in the second
  pub find_left : (xs ys : List X) → All (λ y. p y ≡ false) ys → find p (xs ++ ys) ≡ find p xs
  find_left [] [] h = refl
  find_left [] (y ∷ ys) h =
      rw (All-head (λ y. p y ≡ false) y ys h) (find_left [] ys (All-tail (λ y. p y ≡ false) y ys h))
  find_left (x ∷ xs) ys h = ap (λ o. cond (p x) (Some x) o) (find_left xs ys h)

  pub find_right : (xs ys : List X) → All (λ y. p y ≡ false) xs → find p (xs ++ ys) ≡ find p ys
  find_right [] ys h = refl
  find_right (x ∷ xs) ys h = rw (All-head (λ y. p y ≡ false) x xs h) (find_right xs ys (All-tail (λ y. p y ≡ false) x xs h))

  pub find_map : {Y : Type 0} (f : Y → X) (q : Y → Bool) (ys : List Y) → All (λ y. p (f y) ≡ q y) ys → find p (map f ys) ≡ option_map f (find q ys)
  find_map f q [] h = refl
  find_map f q (y ∷ ys) h =
      let rest = find_map f q ys (All-tail (λ y. p (f y) ≡ q y) y ys h) in
      rw (All-head (λ y. p (f y) ≡ q y) y ys h) (by (q y) rest)
    where
      by : (b : Bool) → find p (map f ys) ≡ option_map f (find q ys) → cond b (Some (f y)) (find p (map f ys)) ≡ option_map f (cond b (Some y) (find q ys))
      by true rest = refl
      by false rest = rest
