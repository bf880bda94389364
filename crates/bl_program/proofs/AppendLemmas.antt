-- What stands in lists that are put together, and sums over them.
use Rattle.std.proofs.Common.{◌≡◌, ℕ, zero, suc, ◌+◌, ◌<◌, ◌≤◌, List, [], ◌∷◌, ◌++◌, length, take, drop, slice_get, refl, ap, ◌∙◌, arith}
use Rattle.bl_program.specs.Layout.{sum_before}

module _ {X : Type 0} where
  pub get_left : (xs ys : List X) (k : ℕ) → k < length xs → slice_get (xs ++ ys) k ≡ slice_get xs k
  get_left [] ys k lt = absurd (omega arith)
  get_left (x ∷ xs) ys zero lt = refl
  get_left (x ∷ xs) ys (suc k) lt = get_left xs ys k (omega arith)

  pub get_right : (xs ys : List X) (i k : ℕ) → i ≡ length xs + k → slice_get (xs ++ ys) i ≡ slice_get ys k
  get_right [] ys i k e = ap (slice_get ys) (omega arith)
  get_right (x ∷ xs) ys zero k e = absurd (omega arith)
  get_right (x ∷ xs) ys (suc i) k e = get_right xs ys i k (omega arith)

  pub get_take : (n : ℕ) (xs : List X) (k : ℕ) → k < n → slice_get (take n xs) k ≡ slice_get xs k
  get_take zero xs k lt = absurd (omega arith)
  get_take (suc n) [] k lt = refl
  get_take (suc n) (x ∷ xs) zero lt = refl
  get_take (suc n) (x ∷ xs) (suc k) lt = get_take n xs k (omega arith)

  pub get_drop : (n : ℕ) (xs : List X) (i k : ℕ) → i ≡ n + k → slice_get (drop n xs) k ≡ slice_get xs i
  get_drop zero xs i k e = ap (slice_get xs) (omega arith)
  get_drop (suc n) [] i k e = refl
  get_drop (suc n) (x ∷ xs) zero k e = absurd (omega arith)
  get_drop (suc n) (x ∷ xs) (suc i) k e = get_drop n xs i k (omega arith)

  module _ (f : X → ℕ) where
    pub sum_left : (xs ys : List X) (i : ℕ) → i ≤ length xs → sum_before f (xs ++ ys) i ≡ sum_before f xs i
    sum_left xs ys zero le = refl
    sum_left [] ys (suc i) le = absurd (omega arith)
    sum_left (x ∷ xs) ys (suc i) le = let rest = sum_left xs ys i (omega arith) in omega arith

    pub sum_right : (xs ys : List X) (i k : ℕ) → i ≡ length xs + k → sum_before f (xs ++ ys) i ≡ sum_before f xs (length xs) + sum_before f ys k
    sum_right [] ys i k e = let same : i ≡ k = omega arith in ap (sum_before f ys) same ∙ omega arith
    sum_right (x ∷ xs) ys zero k e = absurd (omega arith)
    sum_right (x ∷ xs) ys (suc i) k e = let rest = sum_right xs ys i k (omega arith) in omega arith
