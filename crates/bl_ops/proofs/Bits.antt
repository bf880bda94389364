-- The machine's bitwise operations and counts of bits, by sums over bits.
use Rattle.std.proofs.Common.{◌≡◌, ℕ, zero, suc, ◌+◌, ◌-◌, ◌*◌, ◌/◌, ◌%◌, ◌^◌, ◌<◌, ◌≤◌, eqb, ◌⊎◌, inl, inr, refl, sym, ap, ◌∙◌, arith, bit_and, bit_or, pow_pos, pow_mono, mod-eq_of_lt}
use Rattle.std.specs.Prelude.{bit_xor, count_ones}
use Rattle.std.proofs.Math.Nat.{mod-one, pow-suc, div-eq_of_lt}
use Rattle.std.proofs.lemmas.Nat.{mod-pow-add, and_le_l, or_lt, xor_lt, ones_cat, leading_length, le-div}
use Rattle.std.proofs.lemmas.Nat.Bits.{bit_at_and, bit_at_or, bit_at_xor}
use Rattle.std.proofs.lemmas.Bool.{cases_lt}
use Rattle.std.proofs.lemmas.Bool.Decides.{nat_tests}
use Rattle.std.specs.Int.Count.{ones, count_leading_zeros, count_trailing_zeros, under}
use Rattle.bl_base.specs.Sums.{sum_below}
use Rattle.bl_base.proofs.Sums.{sum_none, sum_same}
use Rattle.bl_ops.specs.Integer.{from_bits, bit, truth, iand, ior, ixor, iclz, ictz, ipopcnt}

-- ---- sums

-- the first term, and the sum of the others
sum_first : (n : ℕ) (f : ℕ → ℕ) → sum_below (suc n) f ≡ f 0 + sum_below n (λ k. f (suc k))
sum_first zero f = omega arith
sum_first (suc n) f = omega (arith, sum_first n f)

-- ---- a number is the sum of its bits

next_power : (m n : ℕ) → m % 2 ^ suc n ≡ (m / 2 ^ n % 2) * 2 ^ n + m % 2 ^ n
next_power m n = ap (λ (x : ℕ). m % 2 ^ x) (omega arith) ∙ mod-pow-add m 1 n

pub from_bits-bit : (n m : ℕ) → from_bits n (bit m) ≡ m % 2 ^ n
unfolding from_bits
from_bits-bit zero m = sym (mod-one m)
from_bits-bit (suc n) m = omega (arith, from_bits-bit n m, next_power m n)

pub iand_is : (n a b : ℕ) → a < 2 ^ n → b < 2 ^ n → iand n a b ≡ bit_and a b
unfolding iand from_bits
iand_is n a b p q =
    sum_same n _ _ (λ k _. ap (λ (x : ℕ). x * 2 ^ k) (sym (bit_at_and a b k)))
    ∙ from_bits-bit n (bit_and a b)
    ∙ mod-eq_of_lt (omega (arith, and_le_l a b))

pub ior_is : (n a b : ℕ) → a < 2 ^ n → b < 2 ^ n → ior n a b ≡ bit_or a b
unfolding ior from_bits
ior_is n a b p q =
    sum_same n _ _ (λ k _. ap (λ (x : ℕ). x * 2 ^ k) (sym (bit_at_or a b k)))
    ∙ from_bits-bit n (bit_or a b)
    ∙ mod-eq_of_lt (or_lt n a b p q)

pub ixor_is : (n a b : ℕ) → a < 2 ^ n → b < 2 ^ n → ixor n a b ≡ bit_xor a b
unfolding ixor from_bits
ixor_is n a b p q =
    sum_same n _ _ (λ k _. ap (λ (x : ℕ). x * 2 ^ k) (sym (bit_at_xor a b k)))
    ∙ from_bits-bit n (bit_xor a b)
    ∙ mod-eq_of_lt (xor_lt n a b p q)

pub ruleset bitwise_ops = (iand_is, ior_is, ixor_is)

-- ---- counts

one_bit : (x : ℕ) → x < 2 → ones x ≡ x
unfolding ones
one_bit zero h = refl
one_bit (suc zero) h = refl
one_bit (suc (suc x)) h = absurd (omega arith)

ones_below : (n i : ℕ) → sum_below n (bit i) ≡ ones (i % 2 ^ n)
unfolding ones
ones_below zero i = sym (ap ones (mod-one i))
ones_below (suc n) i =
    let split = ap ones (next_power i n) ∙ ones_cat n (i / 2 ^ n % 2) (i % 2 ^ n) (omega (arith, pow_pos n)) in
    omega (arith, ones_below n i, split, one_bit (i / 2 ^ n % 2) (omega arith))

pub ipopcnt_is : (n i : ℕ) → i < 2 ^ n → ipopcnt n i ≡ count_ones i
unfolding ipopcnt
ipopcnt_is n i h = ones_below n i ∙ ap ones (mod-eq_of_lt h)

truth_zero : (x : ℕ) → x ≡ 0 → truth (eqb x 0) ≡ 1
truth_zero x h = ap (λ (y : ℕ). truth (eqb y 0)) h

truth_positive : (x : ℕ) → 0 < x → truth (eqb x 0) ≡ 0
truth_positive x h = grind (arith, nat_tests)

-- of a number of m bits, the places from m on
zeros_from : (n m i : ℕ) → i < 2 ^ m → 2 ^ m ≤ 2 * i + 1 → sum_below n (λ k. truth (eqb (i / 2 ^ k) 0)) ≡ n - m
zeros_from zero m i p q = omega arith
zeros_from (suc n) m i p q = by_order (zeros_from n m i p q) (cases_lt n m)
  where
    by_order : sum_below n (λ k. truth (eqb (i / 2 ^ k) 0)) ≡ n - m → (n < m) ⊎ (m ≤ n) → sum_below (suc n) (λ k. truth (eqb (i / 2 ^ k) 0)) ≡ suc n - m
    by_order rest (inl h) =
        let reach : 1 ≤ i / 2 ^ n = le-div 1 i (2 ^ n) (pow_pos n) (omega (arith, pow_mono {i = suc n} {j = m} (omega arith), pow-suc 2 n)) in
        omega (arith, rest, truth_positive (i / 2 ^ n) (omega arith))
    by_order rest (inr h) =
        let none : i / 2 ^ n ≡ 0 = div-eq_of_lt (omega (arith, pow_mono {i = m} {j = n} h)) in
        omega (arith, rest, truth_zero (i / 2 ^ n) none)

pub iclz_is : (n i : ℕ) → i < 2 ^ n → iclz n i ≡ count_leading_zeros n i
unfolding iclz
iclz_is n i h =
    let top = leading_length n i h in
    omega (arith, top.1, zeros_from n top.0 i top.2 top.3)

pub ictz_is : (n i : ℕ) → ictz n i ≡ count_trailing_zeros n i
unfolding ictz count_trailing_zeros
ictz_is zero i = refl
ictz_is (suc n) i = by_bit (ictz_is n (i / 2)) (i % 2) refl (omega arith)
  where
    half : (k : ℕ) → i % 2 ^ (suc k + 1) ≡ (i / 2 % 2 ^ (k + 1)) * 2 + i % 2
    half k = ap (λ (x : ℕ). i % 2 ^ x) (omega arith) ∙ mod-pow-add i (k + 1) 1

    first : sum_below (suc n) (λ k. truth (eqb (i % 2 ^ (k + 1)) 0)) ≡ truth (eqb (i % 2 ^ (0 + 1)) 0) + sum_below n (λ k. truth (eqb (i % 2 ^ (suc k + 1)) 0))
    first = sum_first n (λ k. truth (eqb (i % 2 ^ (k + 1)) 0))

    by_bit : sum_below n (λ k. truth (eqb (i / 2 % 2 ^ (k + 1)) 0)) ≡ count_trailing_zeros n (i / 2) → (d : ℕ) → i % 2 ≡ d → d < 2 → sum_below (suc n) (λ k. truth (eqb (i % 2 ^ (k + 1)) 0)) ≡ under d (count_trailing_zeros n (i / 2))
    by_bit rest_is zero e h =
        let rest = sum_same n _ _ (λ k _. ap (λ (x : ℕ). truth (eqb x 0)) (half k) ∙ even (i / 2 % 2 ^ (k + 1)) (i % 2) e) in
        omega (arith, first, rest, truth_zero (i % 2 ^ (0 + 1)) e, rest_is)
      where
        even : (x d : ℕ) → d ≡ 0 → truth (eqb (x * 2 + d) 0) ≡ truth (eqb x 0)
        even x d e = grind (arith, nat_tests)
    by_bit rest_is (suc zero) e h =
        let rest = sum_none n (λ k. truth (eqb (i % 2 ^ (suc k + 1)) 0)) (λ k _. truth_positive (i % 2 ^ (suc k + 1)) (omega (arith, half k))) in
        omega (arith, first, rest, truth_positive (i % 2 ^ (0 + 1)) (omega arith))
    by_bit rest_is (suc (suc d)) e h = absurd (omega arith)

pub ruleset counts = (iclz_is, ictz_is, ipopcnt_is)
