-- What the grammar of unsigned numbers implies, at every width.
use Rattle.std.proofs.Common.{◌≡◌, ℕ, ◌+◌, ◌-◌, ◌*◌, ◌^◌, ◌<◌, ◌≤◌, List, [], ◌∷◌, ◌++◌, length, ap, sym, ◌∙◌, refl, arith, length-append, take, get_or, suc, subst, append_assoc, ◌/◌, ◌%◌, ◌⊎◌, inl, inr}
use Rattle.std.proofs.Math.Seq.{take-suc, take-length}
use Rattle.std.proofs.lemmas.Nat.{pow-add}
use Rattle.bl_leb.specs.Numbers.{IsUnsigned}
use Rattle.bl_leb.proofs.Bits.{power_grows}
use Rattle.bl_leb.specs.Spellings.{IsShortest, Appends}

-- a byte takes seven of the bits
pub power_split : (width : ℕ) → 7 < width → 2 ^ width ≡ 128 * 2 ^ (width - 7)
power_split width wide =
    let e : 7 + (width - 7) ≡ width = omega arith in
    sym (ap (λ k. 2 ^ k) e) ∙ pow-add 2 7 (width - 7)

-- a number of so many bits is below two to them
pub bounded : (width : ℕ) (bytes : List ℕ) (value : ℕ) → IsUnsigned width bytes value → value < 2 ^ width
bounded width [] value h = absurd h
bounded width (n ∷ []) value h = omega arith
bounded width (n ∷ next ∷ rest) value h =
    let below = bounded (width - 7) (next ∷ rest) h.3 h.4 in
    let split = power_split width h.2 in
    omega arith

-- the bytes spell one value
pub one_value : (width : ℕ) (bytes : List ℕ) (v w : ℕ) → IsUnsigned width bytes v → IsUnsigned width bytes w → v ≡ w
one_value width [] v w p q = absurd p
one_value width (n ∷ []) v w p q = omega arith
one_value width (n ∷ next ∷ rest) v w p q =
    let same = one_value (width - 7) (next ∷ rest) p.3 q.3 p.4 q.4 in
    omega arith

-- spellings are prefix-free
pub one_end : (width other : ℕ) (a b x y : List ℕ) (v w : ℕ) → IsUnsigned width a v → IsUnsigned other b w → a ++ x ≡ b ++ y → a ≡ b
one_end width other [] b x y v w p q e = absurd p
one_end width other (n ∷ a) [] x y v w p q e = absurd q
one_end width other (n ∷ []) (m ∷ []) x y v w p q e = cc
one_end width other (n ∷ []) (m ∷ l ∷ b) x y v w p q e =
    let same : n ≡ m = cc in
    absurd (omega (arith, same))
one_end width other (n ∷ k ∷ a) (m ∷ []) x y v w p q e =
    let same : n ≡ m = cc in
    absurd (omega (arith, same))
one_end width other (n ∷ k ∷ a) (m ∷ l ∷ b) x y v w p q e =
    let same : n ≡ m = cc in
    let tails : (k ∷ a) ++ x ≡ (l ∷ b) ++ y = cc in
    let rest = one_end (width - 7) (other - 7) (k ∷ a) (l ∷ b) x y p.3 q.3 p.4 q.4 tails in
    cc

-- two spellings of one value that are as long are one
pub one_of_length : (width : ℕ) (a b : List ℕ) (v : ℕ) → IsUnsigned width a v → IsUnsigned width b v → length a ≡ length b → a ≡ b
one_of_length width [] b v p q e = absurd p
one_of_length width (n ∷ a) [] v p q e = absurd q
one_of_length width (n ∷ []) (m ∷ []) v p q e =
    let same : n ≡ m = omega arith in cc
one_of_length width (n ∷ []) (m ∷ l ∷ b) v p q e = absurd (omega arith)
one_of_length width (n ∷ k ∷ a) (m ∷ []) v p q e = absurd (omega arith)
one_of_length width (n ∷ k ∷ a) (m ∷ l ∷ b) v p q e =
    let high : p.3 ≡ q.3 = omega arith in
    let low : n ≡ m = omega arith in
    let rest = one_of_length (width - 7) (k ∷ a) (l ∷ b) q.3 (rw high at p.4) q.4 (omega arith) in
    cc

-- a spelling has a byte
pub not_empty : (width : ℕ) (bytes : List ℕ) (v : ℕ) → IsUnsigned width bytes v → 1 ≤ length bytes
not_empty width [] v p = absurd p
not_empty width (n ∷ bytes) v p = omega arith

-- a number below 128 in one byte is as short as can be
pub shortest_one : (width v : ℕ) → v < 128 → v < 2 ^ width → IsShortest (IsUnsigned width) (v ∷ []) v
shortest_one width v small fits = record { spelled = (small, fits, refl); least = λ other h. not_empty width other v h }

-- each spelling of a number from 128 on has one byte more than the higher bits need
longer : (width : ℕ) (bytes other : List ℕ) (m v : ℕ) → IsShortest (IsUnsigned (width - 7)) bytes m → 128 * m ≤ v → v < 128 * m + 128 → 0 < m → IsUnsigned width other v → 1 + length bytes ≤ length other
longer width bytes [] m v short low high large h = absurd h
longer width bytes (n ∷ []) m v short low high large h = absurd (omega arith)
longer width bytes (n ∷ k ∷ other) m v short low high large h =
    let same : h.3 ≡ m = omega arith in
    let more = short.least (k ∷ other) (rw same at h.4) in
    omega arith

-- the shortest spelling of what is above the low bits, which isn't 0, gives the shortest of the whole
pub shortest_more : (width n m v : ℕ) (bytes : List ℕ) → 128 ≤ n → n < 256 → 7 < width → IsShortest (IsUnsigned (width - 7)) bytes m → 0 < m → v ≡ 128 * m + (n - 128) → IsShortest (IsUnsigned width) (n ∷ bytes) v
shortest_more width n m v [] high byte wide short large is = absurd short.spelled
shortest_more width n m v (k ∷ bytes) high byte wide short large is = record {
  spelled = (high, byte, wide, m, short.spelled, is);
  least = λ other h. let l = longer width (k ∷ bytes) other m v short (omega arith) (omega arith) large h in omega arith;
}

-- a spelling's first byte is its last, or the rest of it spells the higher bits
pub by_first : (width n : ℕ) (tail : List ℕ) (v : ℕ) → IsUnsigned width (n ∷ tail) v → ((length tail ≡ 0) × (n < 128) × (n < 2 ^ width)) ⊎ ((128 ≤ n) × (7 < width) × (m : ℕ) × IsUnsigned (width - 7) tail m × (n < 256) × (v ≡ 128 * m + (n - 128)))
by_first width n [] v h = inl (refl, h.0, h.1)
by_first width n (k ∷ tail) v h = inr (h.0, h.2, h.3, h.4, h.1, h.5)

-- a byte before a spelling
pub with_first : (width n : ℕ) (tail : List ℕ) (m v : ℕ) → 128 ≤ n → n < 256 → 7 < width → IsUnsigned (width - 7) tail m → v ≡ 128 * m + (n - 128) → IsUnsigned width (n ∷ tail) v
with_first width n [] m v high byte wide h is = absurd h
with_first width n (k ∷ tail) m v high byte wide h is = (high, byte, wide, m, h, is)

-- at most ceil(N / 7) bytes
pub length_bounded : (width : ℕ) (bytes : List ℕ) (v : ℕ) → 0 < width → IsUnsigned width bytes v → 7 * length bytes ≤ width + 6
length_bounded width [] v some h = absurd h
length_bounded width (n ∷ []) v some h = omega arith
length_bounded width (n ∷ k ∷ rest) v some h =
    let less = length_bounded (width - 7) (k ∷ rest) h.3 (omega arith) h.4 in
    omega arith

-- a spelling whose last byte isn't 0 is the shortest
pub large_last : (width : ℕ) (xs : List ℕ) (z v : ℕ) → IsUnsigned width (xs ++ z ∷ []) v → 0 < z → (0 < v) × IsShortest (IsUnsigned width) (xs ++ z ∷ []) v
large_last width [] z v h some = (omega arith, record { spelled = h; least = λ other q. not_empty width other v q })
large_last width (n ∷ xs) z v h some =
    elim (by_first width n (xs ++ z ∷ []) v h) [
      | inl one ↦ absurd (omega (arith, length-append xs (z ∷ []), one.0))
      | inr more ↦ (let rest = large_last (width - 7) xs z more.2 more.3 some in (omega (arith, more.5, rest.0), shortest_more width n more.2 v (xs ++ z ∷ []) more.0 more.4 more.1 rest.1 rest.0 more.5))
    ]

-- a last byte 0 behind another can go
pub zero_last : (width n : ℕ) (xs : List ℕ) (v : ℕ) → IsUnsigned width (n ∷ (xs ++ 0 ∷ [])) v → (other : List ℕ) × IsUnsigned width other v × (length other ≤ 1 + length xs)
zero_last width n [] v h =
    let most = power_grows 7 width (omega arith) in
    ((n - 128) ∷ [], (omega arith, omega arith, omega arith), omega arith)
zero_last width n (k ∷ xs) v h =
    let rest = zero_last (width - 7) k xs h.3 h.4 in
    (n ∷ rest.0, with_first width n rest.0 h.3 v h.0 h.1 h.2 rest.1 h.5, omega (arith, rest.2))

-- the shortest spelling is one
pub one_shortest : (width : ℕ) (a b : List ℕ) (v : ℕ) → IsShortest (IsUnsigned width) a v → IsShortest (IsUnsigned width) b v → a ≡ b
one_shortest width a b v p q =
    let less = p.least b q.spelled in
    let more = q.least a p.spelled in
    one_of_length width a b v p.spelled q.spelled (omega arith)

-- the low bits in a byte, and then the shortest spelling of the others, is the shortest spelling
pub appends_more : (v b : ℕ) (old mid new : List ℕ) → 128 ≤ v → b ≡ v % 128 + 128 → mid ≡ old ++ b ∷ [] → ((width : ℕ) → v / 128 < 2 ^ width → Appends (IsShortest (IsUnsigned width)) mid new (v / 128)) → (width : ℕ) → v < 2 ^ width → Appends (IsShortest (IsUnsigned width)) old new v
appends_more v b old mid new large low pushed rest width fits =
    let cases : (width ≤ 7) ⊎ (7 < width) = grind arith in
    let wide : 7 < width = elim cases [ inl narrow ↦ (let most = power_grows width 7 narrow in absurd (omega arith)) | inr more ↦ more ] in
    let split = power_split width wide in
    let high = rest (width - 7) (omega arith) in
    record {
      bytes = b ∷ high.bytes;
      spelled = shortest_more width b (v / 128) v high.bytes (omega arith) (omega arith) wide high.spelled (omega arith) (omega arith);
      appended = high.appended ∙ ap (λ s. s ++ high.bytes) pushed ∙ append_assoc old (b ∷ []) high.bytes;
    }

-- so a spelling that ends in 0 behind another byte isn't the shortest
pub zero_never : (width n : ℕ) (xs : List ℕ) (v : ℕ) → IsShortest (IsUnsigned width) (n ∷ (xs ++ 0 ∷ [])) v → ⊥
zero_never width n xs v h =
    let other = zero_last width n xs v h.spelled in
    let least = h.least other.0 other.1 in
    omega (arith, least, other.2, length-append xs (0 ∷ []))

-- a list is the elements before its last and that
pub with_last : (xs : List ℕ) → 1 ≤ length xs → take (length xs - 1) xs ++ get_or xs (length xs - 1) 0 ∷ [] ≡ xs
with_last xs some =
    let count : suc (length xs - 1) ≡ length xs = omega arith in
    sym (take-suc xs (length xs - 1) 0 (omega arith)) ∙ ap (λ k. take k xs) count ∙ take-length xs

-- a spelling of one byte, or whose last byte isn't 0, is the shortest
pub shortest_if : (width : ℕ) (bytes : List ℕ) (v : ℕ) → (length bytes < 2) ⊎ (0 < get_or bytes (length bytes - 1) 0) → IsUnsigned width bytes v → IsShortest (IsUnsigned width) bytes v
shortest_if width bytes v (inl short) h = record { spelled = h; least = λ other q. let some = not_empty width other v q in omega arith }
shortest_if width bytes v (inr large) h =
    let whole = with_last bytes (not_empty width bytes v h) in
    let spelled = subst (λ (xs : List ℕ). IsUnsigned width xs v) (sym whole) h in
    subst (λ (xs : List ℕ). IsShortest (IsUnsigned width) xs v) whole (large_last width (take (length bytes - 1) bytes) (get_or bytes (length bytes - 1) 0) v spelled large).1

-- a spelling of more bytes whose last byte is 0 isn't
pub never_if : (width : ℕ) (bytes : List ℕ) (v : ℕ) → 2 ≤ length bytes → get_or bytes (length bytes - 1) 0 ≡ 0 → IsShortest (IsUnsigned width) bytes v → ⊥
never_if width [] v more zero h = omega arith
never_if width (n ∷ bytes) v more zero h =
    let place : length (n ∷ bytes) - 1 ≡ suc (length bytes - 1) = omega arith in
    let last : get_or bytes (length bytes - 1) 0 ≡ 0 = sym (ap (λ k. get_or (n ∷ bytes) k 0) place) ∙ zero in
    let whole : take (length bytes - 1) bytes ++ 0 ∷ [] ≡ bytes = ap (λ b. take (length bytes - 1) bytes ++ b ∷ []) (sym last) ∙ with_last bytes (omega arith) in
    zero_never width n (take (length bytes - 1) bytes) v (subst (λ (xs : List ℕ). IsShortest (IsUnsigned width) (n ∷ xs) v) (sym whole) h)
