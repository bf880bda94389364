-- The shortest spellings of numbers.
use Rattle.std.proofs.Common.{◌≡◌, ℕ, zero, suc, ◌+◌, ◌-◌, ◌*◌, ◌/◌, ◌%◌, ◌^◌, ◌<◌, ◌≤◌, List, ◌++◌, length, ap, ◌∙◌, arith, ◌⊎◌, inl, inr}
use Rattle.std.proofs.lemmas.Nat.{pow-add}
use Rattle.std.proofs.lemmas.Bool.{cases_lt, lt-ltb, le-ltb}
use Rattle.bl_leb.specs.Numbers.{IsUnsigned}
use Rattle.bl_leb.specs.Spellings.{IsShortest, Appends}
use Rattle.bl_leb.proofs.Bits.{power_grows}
use Rattle.bl_leb.proofs.Unsigned.{length_bounded, one_shortest, power_split, shortest_one, shortest_more}
use Rattle.bl_gen.specs.GeneratedModule.{leb, leb_within}

-- seven bits more hold 128 times as much
seven_more : (most : ℕ) → 2 ^ (7 * suc (suc most)) ≡ 128 * 2 ^ (7 * suc most)
seven_more most =
    let e : 7 * suc (suc most) ≡ 7 + 7 * suc most = omega arith in
    ap (λ k. 2 ^ k) e ∙ pow-add 2 7 (7 * suc most)

-- a number from 128 on takes more than seven bits
wide : (width n : ℕ) → 128 ≤ n → n < 2 ^ width → 7 < width
wide width n large fits =
    let cases : (width ≤ 7) ⊎ (7 < width) = grind arith in
    elim cases [ inl narrow ↦ (let most = power_grows width 7 narrow in absurd (omega arith)) | inr more ↦ more ]

-- the bytes are the shortest spelling of a number that fits them, at each width that it fits
pub shortest_within : (most n width : ℕ) → n < 2 ^ (7 * suc most) → n < 2 ^ width → IsShortest (IsUnsigned width) (leb_within (suc most) n) n
shortest_within zero n width fits narrow = rw (lt-ltb n 128 (omega arith)) (shortest_one width n (omega arith) narrow)
shortest_within (suc most) n width fits narrow =
    let more = seven_more most in
    elim (cases_lt n 128) [
      | inl small ↦ rw (lt-ltb n 128 small) (shortest_one width n small narrow)
      | inr large ↦ (let above = wide width n large narrow in let split = power_split width above in
          rw (le-ltb n 128 large) (shortest_more width (n % 128 + 128) (n / 128) n (leb_within (suc most) (n / 128)) (omega arith) (omega arith) above (shortest_within most (n / 128) (width - 7) (omega arith) (omega arith)) (omega arith) (omega arith)))
    ]

-- of a number below 2^64
pub leb_shortest : (n width : ℕ) → n < 2 ^ 64 → n < 2 ^ width → IsShortest (IsUnsigned width) (leb n) n
unfolding leb
leb_shortest n width fits narrow =
    let more = power_grows 64 70 (omega arith) in
    shortest_within 9 n width (omega arith) narrow

-- what is put behind some bytes is that spelling
pub appended : (old new : List ℕ) (n : ℕ) → n < 2 ^ 64 → Appends (IsShortest (IsUnsigned 64)) old new n → new ≡ old ++ leb n
appended old new n fits h = h.appended ∙ ap (λ b. old ++ b) (one_shortest 64 h.bytes (leb n) n h.spelled (leb_shortest n 64 fits fits))

-- a number of 32 bits
pub number_spelled : (n : ℕ) → n < 2 ^ 32 → IsUnsigned 32 (leb n) n
number_spelled n fits =
    let more = power_grows 32 64 (omega arith) in
    (leb_shortest n 32 (omega arith) fits).spelled

-- in at most five bytes
pub number_short : (n : ℕ) → n < 2 ^ 32 → length (leb n) ≤ 5
number_short n fits = omega (arith, length_bounded 32 (leb n) n (omega arith) (number_spelled n fits))
