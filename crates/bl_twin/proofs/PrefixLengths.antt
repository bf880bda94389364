-- The length of the longest common prefix of two lists, as far as a loop has come.
use Rattle.std.proofs.Common.{◌≡◌, ◌∙◌, ℕ, ◌+◌, ◌<◌, ◌≤◌, Bool, true, false, cond, List, [], ◌∷◌, length, take, drop, get_or, refl, sym, ap, arith}
use Rattle.std.proofs.lemmas.List.{drop_more, drop_all}
use Rattle.bl_twin.specs.TwinComparisons.{common_by}

module _ {O : Type 0} (alike : O → O → Bool) where
  -- ---- what it is of the first list

  front_by : (b : Bool) (x : O) (xs front : List O) → take (length front) xs ≡ front
      → take (length (cond b (x ∷ front) [])) (x ∷ xs) ≡ cond b (x ∷ front) []
  front_by true x xs front e = ap (λ l. x ∷ l) e
  front_by false x xs front e = refl

  pub front_taken : (xs ys : List O) → take (length (common_by alike xs ys)) xs ≡ common_by alike xs ys
  front_taken [] ys = refl
  front_taken (x ∷ xs) [] = refl
  front_taken (x ∷ xs) (y ∷ ys) = front_by (alike x y) x xs (common_by alike xs ys) (front_taken xs ys)

  within_by : (b : Bool) (x : O) (xs front : List O) → length front ≤ length xs
      → length (cond b (x ∷ front) []) ≤ length (x ∷ xs)
  within_by true x xs front le = omega (arith, le)
  within_by false x xs front le = omega arith

  pub front_within : (xs ys : List O) → length (common_by alike xs ys) ≤ length xs
  front_within [] ys = omega arith
  front_within (x ∷ xs) [] = omega arith
  front_within (x ∷ xs) (y ∷ ys) = within_by (alike x y) x xs (common_by alike xs ys) (front_within xs ys)

  pub front_within_other : (xs ys : List O) → length (common_by alike xs ys) ≤ length ys
  front_within_other [] ys = omega arith
  front_within_other (x ∷ xs) [] = omega arith
  front_within_other (x ∷ xs) (y ∷ ys) = within_by (alike x y) x ys (common_by alike xs ys) (front_within_other xs ys)

  -- ---- as far as a loop has come

  -- so many items are common, and then so many of those behind them as of the whole
  pub record IsFront (xs ys : List O) (n : ℕ) : Type 0 where
    pub within : n ≤ length xs
    pub rest : n + length (common_by alike (drop n xs) (drop n ys)) ≡ length (common_by alike xs ys)

  pub front_none : (xs ys : List O) → IsFront xs ys 0
  front_none xs ys = record { within = omega arith; rest = omega arith }

  module _ (xs ys : List O) (n : ℕ) (x y : O) (lt : n < length xs) (below : n < length ys) (is : x ≡ get_or xs n x) (there : y ≡ get_or ys n y) where
    behind : length (common_by alike (drop n xs) (drop n ys))
        ≡ length (cond (alike (get_or xs n x) (get_or ys n y)) (get_or xs n x ∷ common_by alike (drop (n + 1) xs) (drop (n + 1) ys)) [])
    behind =
        ap (λ l. length (common_by alike l (drop n ys))) (drop_more xs n x lt)
        ∙ ap (λ l. length (common_by alike (get_or xs n x ∷ drop (n + 1) xs) l)) (drop_more ys n y below)

    decided : (b : Bool) → alike x y ≡ b → length (common_by alike (drop n xs) (drop n ys))
        ≡ length (cond b (get_or xs n x ∷ common_by alike (drop (n + 1) xs) (drop (n + 1) ys)) [])
    decided b e =
        behind ∙ ap (λ c. length (cond c (get_or xs n x ∷ common_by alike (drop (n + 1) xs) (drop (n + 1) ys)) [])) (sym (λ i. alike (is i) (there i)) ∙ e)

    pub front_next : alike x y ≡ true → IsFront xs ys n → IsFront xs ys (n + 1)
    front_next same front = let e = decided true same in record { within = omega (arith, lt); rest = omega (arith, e, front.rest) }

    pub front_ends : alike x y ≡ false → IsFront xs ys n → n ≡ length (common_by alike xs ys)
    front_ends other front = let e = decided false other in omega (arith, e, front.rest)

  common_none : (xs : List O) → common_by alike xs [] ≡ []
  common_none [] = refl
  common_none (x ∷ xs) = refl

  pub front_first : (xs ys : List O) (n : ℕ) → length xs ≤ n → IsFront xs ys n → n ≡ length (common_by alike xs ys)
  front_first xs ys n le front =
      let e = ap (λ l. length (common_by alike l (drop n ys))) (drop_all n xs le) in
      omega (arith, e, front.rest)

  pub front_second : (xs ys : List O) (n : ℕ) → length ys ≤ n → IsFront xs ys n → n ≡ length (common_by alike xs ys)
  front_second xs ys n le front =
      let e = ap (λ l. length (common_by alike (drop n xs) l)) (drop_all n ys le) ∙ ap length (common_none (drop n xs)) in
      omega (arith, e, front.rest)
