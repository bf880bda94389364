-- The bits that a number's last byte has.
use Rattle.std.proofs.Common.{◌≡◌, ℕ, ◌-◌, ◌*◌, ◌%◌, ◌^◌, ◌<◌, ◌≤◌, min, refl, arith, ◌⊎◌, inl, inr}
use Rattle.std.proofs.lemmas.Nat.{one_shl}
use Rattle.std.proofs.Math.Nat.{pow-le-pow_right}

-- more bits hold more
pub power_grows : (i j : ℕ) → i ≤ j → 2 ^ i ≤ 2 ^ j
power_grows i j less = pow-le-pow_right {n = 2} (omega arith) less

-- two to the bits that the last byte has
limit_is : (k : ℕ) → k ≤ 7 → (1 * 2 ^ k) % 256 ≡ 2 ^ k
limit_is k small = one_shl k 8 (omega arith)

-- a byte below that is below 128 and fits the width
pub limit_fits : (width k n : ℕ) → k ≡ min width 7 → n < (1 * 2 ^ k) % 256 → (n < 128) × (n < 2 ^ width)
limit_fits width k n is less =
    let shift = limit_is k (omega arith) in
    let seven : 2 ^ k ≤ 2 ^ 7 = power_grows k 7 (omega arith) in
    let all : 2 ^ k ≤ 2 ^ width = power_grows k width (omega arith) in
    (omega arith, omega arith)

-- a byte from it on is from 128 on or doesn't fit the width
pub limit_past : (width k n : ℕ) → k ≡ min width 7 → (1 * 2 ^ k) % 256 ≤ n → n < 128 → 2 ^ width ≤ n
limit_past width k n is past small =
    let shift = limit_is k (omega arith) in
    let cases : (width ≡ k) ⊎ (k ≡ 7) = grind arith in
    elim cases [
      | inl e ↦ rw e (omega arith)
      | inr e ↦ (let seven : (1 * 2 ^ k) % 256 ≡ 128 = rw e refl in absurd (omega arith))
    ]

-- what half a byte holds: at most 64, at most the width's half, and all of one of the two
pub half_is : (width k : ℕ) → 0 < width → k ≡ min width 7 → ((1 * 2 ^ (k - 1)) % 256 ≤ 64) × ((1 * 2 ^ (k - 1)) % 256 ≤ 2 ^ (width - 1)) × (((1 * 2 ^ (k - 1)) % 256 ≡ 64) ⊎ ((1 * 2 ^ (k - 1)) % 256 ≡ 2 ^ (width - 1)))
half_is width k some is =
    let shift = limit_is (k - 1) (omega arith) in
    let six = power_grows (k - 1) 6 (omega arith) in
    let all = power_grows (k - 1) (width - 1) (omega arith) in
    let cases : (width ≡ k) ⊎ (k ≡ 7) = grind arith in (
      omega arith,
      omega arith,
      elim cases [
        | inl e ↦ inr (rw e shift)
        | inr e ↦ inl (rw e refl)
      ],
    )
