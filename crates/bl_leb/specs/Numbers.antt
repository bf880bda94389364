-- The spellings of integers in bytes, LEB128 (WebAssembly 1.0, section 5.2.2).
use Rattle.std.specs.Prelude.{◌≡◌, ℕ, ◌+◌, ◌-◌, ◌*◌, ◌^◌, ◌<◌, ◌≤◌, ◌⊎◌, List, [], ◌∷◌, ℤ, pos, ◌+ℤ◌, ◌-ℤ◌, ◌*ℤ◌, ◌≤ℤ◌, ◌<ℤ◌, neg_ℤ}

-- The bytes spell an unsigned number of so many bits.
-- uN: a byte n below 2^7 and 2^N spells n;
-- a byte n from 2^7 on, where N > 7, and then a spelling of m in N - 7 bits, spell 2^7 m + (n - 2^7).
abbrev pub IsUnsigned : ℕ → List ℕ → ℕ → Type 0
IsUnsigned width [] value = ⊥
IsUnsigned width (n ∷ []) value = (n < 2 ^ 7) × (n < 2 ^ width) × (value ≡ n)
IsUnsigned width (n ∷ next ∷ rest) value =
    (2 ^ 7 ≤ n) × (n < 2 ^ 8) × (7 < width)
    × (m : ℕ) × IsUnsigned (width - 7) (next ∷ rest) m × (value ≡ 2 ^ 7 * m + (n - 2 ^ 7))

-- A byte that ends a signed number of so many bits.
-- sN: a byte n below 2^6 and 2^(N - 1) spells n;
-- a byte n from 2^6 on and below 2^7, and from 2^7 - 2^(N - 1) on, spells n - 2^7.
abbrev pub IsSignedByte : ℕ → ℕ → ℤ → Type 0
IsSignedByte width n value =
    ((n < 2 ^ 6) × (n < 2 ^ (width - 1)) × (value ≡ pos n))
    ⊎ ((2 ^ 6 ≤ n) × (n < 2 ^ 7) × (2 ^ 7 ≤ n + 2 ^ (width - 1)) × (value ≡ pos n -ℤ pos (2 ^ 7)))

-- The bytes spell a signed number of so many bits.
-- sN: a byte that ends it, as above;
-- a byte n from 2^7 on, where N > 7, and then a spelling of m in N - 7 bits, spell 2^7 m + (n - 2^7).
abbrev pub IsSigned : ℕ → List ℕ → ℤ → Type 0
IsSigned width [] value = ⊥
IsSigned width (n ∷ []) value = IsSignedByte width n value
IsSigned width (n ∷ next ∷ rest) value =
    (2 ^ 7 ≤ n) × (n < 2 ^ 8) × (7 < width)
    × (m : ℤ) × IsSigned (width - 7) (next ∷ rest) m
    × (value ≡ pos (2 ^ 7) *ℤ m +ℤ pos (n - 2 ^ 7))

-- The signed numbers of so many bits (section 2.2.2): from -2^(N - 1) to below 2^(N - 1).
abbrev pub IsSignedNumber : ℕ → ℤ → Type 0
IsSignedNumber width value = (neg_ℤ (pos (2 ^ (width - 1))) ≤ℤ value) × (value <ℤ pos (2 ^ (width - 1)))
