-- What the grammar of signed numbers implies, at every width.
use Rattle.std.proofs.Common.{◌≡◌, ℕ, ◌+◌, ◌-◌, ◌*◌, ◌^◌, ◌<◌, ◌≤◌, ℤ, pos, negsuc, ◌+ℤ◌, ◌*ℤ◌, ◌≤ℤ◌, ◌<ℤ◌, List, [], ◌∷◌, ◌++◌, length, append_assoc, ap, sym, ◌∙◌, refl, arith, ◌⊎◌, inl, inr}
use Rattle.std.proofs.lemmas.Int.{ints}
use Rattle.std.proofs.lemmas.Nat.{pow-add, pow_pos}
use Rattle.std.specs.Int.{int_div_euclid, int_rem_euclid}
use Rattle.bl_leb.specs.Numbers.{IsSigned, IsSignedByte, IsSignedNumber}
use Rattle.bl_leb.specs.Spellings.{IsShortest, Appends}
use Rattle.bl_leb.proofs.Bits.{power_grows}

-- a byte takes seven of the bits
pub half_split : (width : ℕ) → 7 < width → 2 ^ (width - 1) ≡ 128 * 2 ^ (width - 7 - 1)
half_split width wide =
    let e : 7 + (width - 7 - 1) ≡ width - 1 = omega arith in
    sym (ap (λ k. 2 ^ k) e) ∙ pow-add 2 7 (width - 7 - 1)

-- the last byte's value is below two to the bits without the sign
pub byte_bounded : (width n : ℕ) (value : ℤ) → IsSignedByte width n value → IsSignedNumber width value
byte_bounded width n value (inl h) = let p = pow_pos (width - 1) in (omega (arith, ints), omega (arith, ints))
byte_bounded width n value (inr h) = let p = pow_pos (width - 1) in (omega (arith, ints), omega (arith, ints))

-- a number of so many bits is below two to them without the sign, on either side
pub bounded : (width : ℕ) (bytes : List ℕ) (value : ℤ) → IsSigned width bytes value → IsSignedNumber width value
bounded width [] value h = absurd h
bounded width (n ∷ []) value h = byte_bounded width n value h
bounded width (n ∷ next ∷ rest) value h =
    let below = bounded (width - 7) (next ∷ rest) h.3 h.4 in
    let split = half_split width h.2 in
    (omega (arith, ints), omega (arith, ints))

-- the last byte is below 128, and its value is within 64 of zero
pub byte_small : (width n : ℕ) (value : ℤ) → IsSignedByte width n value → (n < 128) × (((n < 64) × (value ≡ pos n)) ⊎ ((64 ≤ n) × (pos n ≡ value +ℤ pos 128)))
byte_small width n value (inl h) = (omega arith, inl (omega arith, h.2))
byte_small width n value (inr h) = (omega arith, inr (omega arith, omega (arith, ints)))

-- the bytes spell one value
pub one_value : (width : ℕ) (bytes : List ℕ) (v w : ℤ) → IsSigned width bytes v → IsSigned width bytes w → v ≡ w
one_value width [] v w p q = absurd p
one_value width (n ∷ []) v w p q =
    let a = byte_small width n v p in
    let b = byte_small width n w q in
    grind (arith, ints)
one_value width (n ∷ next ∷ rest) v w p q =
    let same = one_value (width - 7) (next ∷ rest) p.3 q.3 p.4 q.4 in
    omega (arith, ints)

-- spellings are prefix-free
pub one_end : (width other : ℕ) (a b x y : List ℕ) (v w : ℤ) → IsSigned width a v → IsSigned other b w → a ++ x ≡ b ++ y → a ≡ b
one_end width other [] b x y v w p q e = absurd p
one_end width other (n ∷ a) [] x y v w p q e = absurd q
one_end width other (n ∷ []) (m ∷ []) x y v w p q e = cc
one_end width other (n ∷ []) (m ∷ l ∷ b) x y v w p q e =
    let same : n ≡ m = cc in
    let small = byte_small width n v p in
    absurd (omega (arith, same, small.0))
one_end width other (n ∷ k ∷ a) (m ∷ []) x y v w p q e =
    let same : n ≡ m = cc in
    let small = byte_small other m w q in
    absurd (omega (arith, same, small.0))
one_end width other (n ∷ k ∷ a) (m ∷ l ∷ b) x y v w p q e =
    let same : n ≡ m = cc in
    let tails : (k ∷ a) ++ x ≡ (l ∷ b) ++ y = cc in
    let rest = one_end (width - 7) (other - 7) (k ∷ a) (l ∷ b) x y p.3 q.3 p.4 q.4 tails in
    cc

-- the higher bits and the low ones of a number are settled by it
high_same : (v m k : ℤ) (a b : ℕ) → 128 ≤ a → a < 256 → 128 ≤ b → b < 256 → v ≡ pos 128 *ℤ m +ℤ pos (a - 128) → v ≡ pos 128 *ℤ k +ℤ pos (b - 128) → (m ≡ k) × (a ≡ b)
high_same v m k a b p q r s e f = (omega (arith, ints), omega (arith, ints))

-- two last bytes of one value are one
byte_same : (width a b : ℕ) (v : ℤ) → IsSignedByte width a v → IsSignedByte width b v → a ≡ b
byte_same width a b v p q =
    let f = byte_small width a v p in
    let g = byte_small width b v q in
    grind (arith, ints)

-- two spellings of one value that are as long are one
pub one_of_length : (width : ℕ) (a b : List ℕ) (v : ℤ) → IsSigned width a v → IsSigned width b v → length a ≡ length b → a ≡ b
one_of_length width [] b v p q e = absurd p
one_of_length width (n ∷ a) [] v p q e = absurd q
one_of_length width (n ∷ []) (m ∷ []) v p q e =
    let same : n ≡ m = byte_same width n m v p q in cc
one_of_length width (n ∷ []) (m ∷ l ∷ b) v p q e = absurd (omega arith)
one_of_length width (n ∷ k ∷ a) (m ∷ []) v p q e = absurd (omega arith)
one_of_length width (n ∷ k ∷ a) (m ∷ l ∷ b) v p q e =
    let same = high_same v p.3 q.3 n m p.0 p.1 q.0 q.1 p.5 q.5 in
    let rest = one_of_length (width - 7) (k ∷ a) (l ∷ b) q.3 (rw same.0 at p.4) q.4 (omega arith) in
    let low = same.1 in
    cc

-- a spelling has a byte
pub not_empty : (width : ℕ) (bytes : List ℕ) (v : ℤ) → IsSigned width bytes v → 1 ≤ length bytes
not_empty width [] v p = absurd p
not_empty width (n ∷ bytes) v p = omega arith

-- where no byte spells the number alone, each spelling has one byte more than the higher bits need
longer : (width : ℕ) (bytes other : List ℕ) (m v : ℤ) (n : ℕ) → IsShortest (IsSigned (width - 7)) bytes m → 128 ≤ n → n < 256 → v ≡ pos 128 *ℤ m +ℤ pos (n - 128) → (v <ℤ pos 64 → pos 0 ≤ℤ (v +ℤ pos 64) → ⊥) → IsSigned width other v → 1 + length bytes ≤ length other
longer width bytes [] m v n short low high is large h = absurd h
longer width bytes (k ∷ []) m v n short low high is large h =
    let small = byte_small width k v h in
    absurd (elim small.1 [ inl s ↦ large (omega (arith, ints)) (omega (arith, ints)) | inr s ↦ large (omega (arith, ints)) (omega (arith, ints)) ])
longer width bytes (k ∷ l ∷ other) m v n short low high is large h =
    let same = high_same v h.3 m k n h.0 h.1 low high h.5 is in
    let more = short.least (l ∷ other) (rw same.0 at h.4) in
    omega arith

-- the shortest spelling of what is above the low bits gives the shortest of what no byte spells alone
pub shortest_more : (width n : ℕ) (m v : ℤ) (bytes : List ℕ) → 128 ≤ n → n < 256 → 7 < width → IsShortest (IsSigned (width - 7)) bytes m → (v <ℤ pos 64 → pos 0 ≤ℤ (v +ℤ pos 64) → ⊥) → v ≡ pos 128 *ℤ m +ℤ pos (n - 128) → IsShortest (IsSigned width) (n ∷ bytes) v
shortest_more width n m v [] high byte wide short large is = absurd short.spelled
shortest_more width n m v (k ∷ bytes) high byte wide short large is = record {
  spelled = (high, byte, wide, m, short.spelled, is);
  least = λ other h. let l = longer width (k ∷ bytes) other m v n short high byte is large h in omega arith;
}

-- a spelling's first byte is its last, or the rest of it spells the higher bits
pub by_first : (width n : ℕ) (tail : List ℕ) (v : ℤ) → IsSigned width (n ∷ tail) v → ((length tail ≡ 0) × IsSignedByte width n v) ⊎ ((128 ≤ n) × (7 < width) × (m : ℤ) × IsSigned (width - 7) tail m)
by_first width n [] v h = inl (refl, h)
by_first width n (k ∷ tail) v h = inr (h.0, h.2, h.3, h.4)

-- a byte before a spelling
pub with_first : (width n : ℕ) (tail : List ℕ) (m v : ℤ) → 128 ≤ n → n < 256 → 7 < width → IsSigned (width - 7) tail m → v ≡ pos 128 *ℤ m +ℤ pos (n - 128) → IsSigned width (n ∷ tail) v
with_first width n [] m v high byte wide h is = absurd h
with_first width n (k ∷ tail) m v high byte wide h is = (high, byte, wide, m, h, is)

-- at most ceil(N / 7) bytes
pub length_bounded : (width : ℕ) (bytes : List ℕ) (v : ℤ) → 0 < width → IsSigned width bytes v → 7 * length bytes ≤ width + 6
length_bounded width [] v some h = absurd h
length_bounded width (n ∷ []) v some h = omega arith
length_bounded width (n ∷ k ∷ rest) v some h =
    let less = length_bounded (width - 7) (k ∷ rest) h.3 (omega arith) h.4 in
    omega arith

-- the shortest spelling is one
pub one_shortest : (width : ℕ) (a b : List ℕ) (v : ℤ) → IsShortest (IsSigned width) a v → IsShortest (IsSigned width) b v → a ≡ b
one_shortest width a b v p q =
    let less = p.least b q.spelled in
    let more = q.least a p.spelled in
    one_of_length width a b v p.spelled q.spelled (omega arith)

-- a whole number is 128 times its quotient and the remainder, which a byte holds
pub euclid : (v : ℤ) → (v ≡ pos 128 *ℤ int_div_euclid v (pos 128) +ℤ int_rem_euclid v (pos 128)) × (pos 0 ≤ℤ int_rem_euclid v (pos 128)) × (int_rem_euclid v (pos 128) <ℤ pos 128)
euclid (pos a) = (omega (arith, ints), omega (arith, ints), omega (arith, ints))
euclid (negsuc a) = (omega (arith, ints), omega (arith, ints), omega (arith, ints))

-- a number that no byte spells alone has more bits, and its higher bits are a number of seven fewer
higher : (width : ℕ) (m v : ℤ) (n : ℕ) → n < 128 → v ≡ pos 128 *ℤ m +ℤ pos n → (v <ℤ pos 64 → pos 0 ≤ℤ (v +ℤ pos 64) → ⊥) → IsSignedNumber width v → (7 < width) × IsSignedNumber (width - 7) m
higher width m v n small is large fits =
    let cases : (width ≤ 7) ⊎ (7 < width) = grind arith in
    elim cases [
      | inl narrow ↦ (let most = power_grows (width - 1) 6 (omega arith) in absurd (large (omega (arith, ints)) (omega (arith, ints))))
      | inr wide ↦ (let split = half_split width wide in (wide, (omega (arith, ints), omega (arith, ints))))
    ]

-- the low bits in a byte, and then the shortest spelling of the others, is the shortest spelling
pub appends_more : (v m : ℤ) (b : ℕ) (old mid new : List ℕ) → 128 ≤ b → b < 256 → v ≡ pos 128 *ℤ m +ℤ pos (b - 128) → (v <ℤ pos 64 → pos 0 ≤ℤ (v +ℤ pos 64) → ⊥) → mid ≡ old ++ b ∷ [] → ((width : ℕ) → IsSignedNumber width m → Appends (IsShortest (IsSigned width)) mid new m) → (width : ℕ) → IsSignedNumber width v → Appends (IsShortest (IsSigned width)) old new v
appends_more v m b old mid new low byte is large pushed rest width fits =
    let more = higher width m v (b - 128) (omega arith) is large fits in
    let high = rest (width - 7) more.1 in
    record {
      bytes = b ∷ high.bytes;
      spelled = shortest_more width b m v high.bytes low byte more.0 high.spelled large is;
      appended = high.appended ∙ ap (λ s. s ++ high.bytes) pushed ∙ append_assoc old (b ∷ []) high.bytes;
    }
