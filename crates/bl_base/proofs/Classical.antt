-- What can't be false: of two cases one, of so many numbers all or a first one that isn't, of numbers with a property a least one.
use Rattle.std.proofs.Common.{ℕ, zero, suc, ◌≡◌, ◌<◌, ◌≤◌, ◌⊎◌, inl, inr, subst, arith}
use Rattle.std.proofs.lemmas.Bool.{cases_lt}

-- it can't be that this is false
abbrev pub NotFalse : Type 0 → Type 0
NotFalse A = (A → ⊥) → ⊥

-- a thing is so, or it isn't
pub either : (A : Type 0) → NotFalse (A ⊎ (A → ⊥))
either A wrong = wrong (inr (λ a. wrong (inl a)))

module _ (Q : ℕ → Type 0) where
  -- of so many numbers all have a property, or there is a first one that hasn't
  pub all_or_first : (count : ℕ) → (((n : ℕ) → n < count → Q n) → ⊥) → ((n : ℕ) → n < count → (Q n → ⊥) → ((m : ℕ) → m < n → Q m) → ⊥) → ⊥
  all_or_first zero all first = all (λ n lt. absurd (omega (arith, lt)))
  all_or_first (suc count) all first = all_or_first count at_last (λ n lt. first n (omega (arith, lt)))
    where
      whole : ((n : ℕ) → n < count → Q n) → Q count → (n : ℕ) → n < suc count → Q n
      whole below last n lt = elim (cases_lt n count) as (λ _. Q n) [
        | inl less ↦ below n less
        | inr more ↦ let same : count ≡ n = omega (arith, lt, more) in subst Q same last
      ]

      at_last : ((n : ℕ) → n < count → Q n) → ⊥
      at_last below = first count (omega arith) (λ last. all (whole below last)) below

  -- where it can't be false of each of so many, it can't be that it isn't so of all
  pub all_of : (count : ℕ) → ((n : ℕ) → n < count → NotFalse (Q n)) → NotFalse ((n : ℕ) → n < count → Q n)
  all_of count each wrong = all_or_first count wrong (λ n lt without below. each n lt without)

  -- the least number with a property
  pub record IsFirst (n : ℕ) : Type 0 where
    pub is : Q n
    pub least : (m : ℕ) → Q m → n ≤ m

  none_below : ((n : ℕ) → IsFirst n → ⊥) → (fuel n : ℕ) → n < fuel → Q n → ⊥
  none_below none zero n lt q = omega (arith, lt)
  none_below none (suc fuel) n lt q = none n (record {
    is = q;
    least = λ m r. elim (cases_lt m n) as (λ _. n ≤ m) [ inl less ↦ absurd (none_below none fuel m (omega (arith, lt, less)) r) | inr more ↦ more ];
  })

  -- where some number has it, one is the least
  pub some_first : (n : ℕ) → Q n → NotFalse ((m : ℕ) × IsFirst m)
  some_first n q wrong = none_below (λ m first. wrong (m, first)) (suc n) n (omega arith) q
