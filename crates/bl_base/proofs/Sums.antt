-- Sums over the numbers below one.
use Rattle.std.proofs.Common.{◌≡◌, ℕ, zero, suc, ◌+◌, ◌*◌, ◌<◌, ◌≤◌, refl, ap, arith, ◌⊎◌, inl, inr}
use Rattle.std.proofs.lemmas.Bool.{cases_lt}
use Rattle.std.proofs.Math.Nat.{suc-mul}
use Rattle.bl_base.specs.Sums.{sum_below}

pub sum_same : (m : ℕ) (g h : ℕ → ℕ) → ((k : ℕ) → k < m → g k ≡ h k) → sum_below m g ≡ sum_below m h
sum_same zero g h same = refl
sum_same (suc m) g h same =
    let rest = sum_same m g h (λ k lt. same k (omega arith)) in
    let last = same m (omega arith) in
    omega arith

pub sum_le : (m : ℕ) (g h : ℕ → ℕ) → ((k : ℕ) → k < m → g k ≤ h k) → sum_below m g ≤ sum_below m h
sum_le zero g h le = omega arith
sum_le (suc m) g h le =
    let rest = sum_le m g h (λ k lt. le k (omega arith)) in
    let last = le m (omega arith) in
    omega arith

pub sum_plus : (m : ℕ) (g h : ℕ → ℕ) → sum_below m (λ k. g k + h k) ≡ sum_below m g + sum_below m h
sum_plus zero g h = omega arith
sum_plus (suc m) g h =
    let rest = sum_plus m g h in
    omega arith

pub sum_none : (m : ℕ) (g : ℕ → ℕ) → ((k : ℕ) → k < m → g k ≡ 0) → sum_below m g ≡ 0
sum_none zero g none = refl
sum_none (suc m) g none =
    let rest = sum_none m g (λ k lt. none k (omega arith)) in
    let last = none m (omega arith) in
    omega arith

-- nothing is left behind a number
pub sum_front : (m n : ℕ) (g : ℕ → ℕ) → ((k : ℕ) → n ≤ k → g k ≡ 0) → sum_below (n + m) g ≡ sum_below n g
sum_front zero n g none = ap (λ k. sum_below k g) (omega arith)
sum_front (suc m) n g none =
    let step : n + suc m ≡ suc (n + m) = omega arith in
    let rest = sum_front m n g none in
    let last = none (n + m) (omega arith) in
    rw step (omega arith)

-- the last place below a number, or one before it
pub last_or_before : (m k : ℕ) → k < suc m → (k ≡ m) ⊎ (k < m)
last_or_before m k lt = elim (cases_lt k m) as (λ _. (k ≡ m) ⊎ (k < m)) [ inl less ↦ inr less | inr more ↦ inl (omega arith) ]

-- a term is at most the sum
pub sum_term : (m : ℕ) (g : ℕ → ℕ) (k : ℕ) → k < m → g k ≤ sum_below m g
sum_term zero g k lt = absurd (omega arith)
sum_term (suc m) g k lt =
    elim (last_or_before m k lt) as (λ _. g k ≤ sum_below m g + g m) [
      | inl e ↦ let same = ap g e in omega arith
      | inr less ↦ let rest = sum_term m g k less in omega arith
    ]

-- where no term is more than the other's and the sums are the same, the terms are
pub sum_tight : (m : ℕ) (g h : ℕ → ℕ) → ((k : ℕ) → k < m → g k ≤ h k) → sum_below m h ≤ sum_below m g → (k : ℕ) → k < m → g k ≡ h k
sum_tight zero g h le sums k lt = absurd (omega arith)
sum_tight (suc m) g h le sums k lt =
    let rest = sum_le m g h (λ j less. le j (omega arith)) in
    let last = le m (omega arith) in
    elim (last_or_before m k lt) as (λ _. g k ≡ h k) [
      | inl e ↦ let one = ap g e in let other = ap h e in omega arith
      | inr less ↦ sum_tight m g h (λ j before. le j (omega arith)) (omega arith) k less
    ]

-- one term more
pub sum_change : (m : ℕ) (g h : ℕ → ℕ) (i d : ℕ) → i < m → h i ≡ g i + d → ((k : ℕ) → k < m → (k ≡ i → ⊥) → h k ≡ g k) → sum_below m h ≡ sum_below m g + d
sum_change zero g h i d lt here others = absurd (omega arith)
sum_change (suc m) g h i d lt here others =
    elim (last_or_before m i lt) as (λ _. sum_below m h + h m ≡ sum_below m g + g m + d) [
      | inl e ↦
          let one = ap g e in let other = ap h e in
          let rest = sum_same m h g (λ k less. others k (omega arith) (λ q. omega arith)) in omega arith
      | inr less ↦
          let rest = sum_change m g h i d less here (λ k before differs. others k (omega arith) differs) in
          let last = others m (omega arith) (λ q. omega arith) in omega arith
    ]

-- so many terms, none above a bound
pub sum_bound : (m : ℕ) (g : ℕ → ℕ) (b : ℕ) → ((k : ℕ) → k < m → g k ≤ b) → sum_below m g ≤ m * b
sum_bound zero g b le = omega arith
sum_bound (suc m) g b le =
    let rest = sum_bound m g b (λ k lt. le k (omega arith)) in
    let last = le m (omega arith) in
    let step = suc-mul m b in
    omega arith
