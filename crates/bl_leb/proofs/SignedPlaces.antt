-- Signed numbers at a place, by the byte that stands there.
use Rattle.std.proofs.Common.{◌≡◌, ℕ, ◌+◌, ◌-◌, ◌<◌, ◌≤◌, ℤ, pos, ◌+ℤ◌, ◌*ℤ◌, List, [], length, get_or, arith, slice_range, inl, inr}
use Rattle.bl_leb.specs.Numbers.{IsSigned, IsSignedByte}
use Rattle.bl_leb.specs.Spellings.{IsSpelledAt}
use Rattle.bl_leb.proofs.Places.{spelled_more, begins, one_place}
use Rattle.bl_leb.proofs.Signed.{by_first, with_first, byte_small, one_end, one_value}

-- no empty spelling
pub not_nothing : (width : ℕ) (w : ℤ) → IsSigned width [] w → ⊥
not_nothing width w h = h

-- a byte from 128 on, and the number behind it
pub signed_more : (width : ℕ) (bytes : List ℕ) (i j n : ℕ) (m v : ℤ) → i < length bytes → n ≡ get_or bytes i n → 128 ≤ n → n < 256 → 7 < width → IsSpelledAt (IsSigned (width - 7)) bytes (i + 1) j m → v ≡ pos 128 *ℤ m +ℤ pos (n - 128) → IsSpelledAt (IsSigned width) bytes i j v
signed_more width bytes i j n m v inside is high byte wide h value =
    spelled_more (IsSigned width) (IsSigned (width - 7)) bytes i j n v m inside is h (λ tail t. with_first width n tail m v high byte wide t value)

-- a byte that fits no rule begins no number
pub signed_never : (width : ℕ) (bytes : List ℕ) (i n : ℕ) → i < length bytes → n ≡ get_or bytes i n → ((v : ℤ) → IsSignedByte width n v → ⊥) → (128 ≤ n → 7 < width → ⊥) → (v : ℤ) (j : ℕ) → IsSpelledAt (IsSigned width) bytes i j v → ⊥
signed_never width bytes i n inside is last more v j h =
    let first = begins (IsSigned width) bytes i j n v inside is (not_nothing width) h in
    let cases = by_first width n (slice_range bytes (i + 1) j) v first.1 in
    elim cases [ inl p ↦ last v p.1 | inr p ↦ more p.0 p.1 ]

-- a byte from 128 on begins no number where none begins behind it
pub signed_none : (width : ℕ) (bytes : List ℕ) (i n : ℕ) → i < length bytes → n ≡ get_or bytes i n → 128 ≤ n → ((m : ℤ) (j : ℕ) → IsSpelledAt (IsSigned (width - 7)) bytes (i + 1) j m → ⊥) → (v : ℤ) (j : ℕ) → IsSpelledAt (IsSigned width) bytes i j v → ⊥
signed_none width bytes i n inside is high none v j h =
    let first = begins (IsSigned width) bytes i j n v inside is (not_nothing width) h in
    let cases = by_first width n (slice_range bytes (i + 1) j) v first.1 in
    elim cases [
      | inl one ↦ (let small = byte_small width n v one.1 in omega (arith, small.0))
      | inr more ↦ none more.2 j (record { forward = omega (arith, first.0); inside = h.inside; spelled = more.3 })
    ]

-- at each place at most one number is spelled, and it ends at one place
pub signed_same : (width : ℕ) (bytes : List ℕ) (i j k : ℕ) (v w : ℤ) → IsSpelledAt (IsSigned width) bytes i j v → IsSpelledAt (IsSigned width) bytes i k w → (j ≡ k) × (v ≡ w)
signed_same width bytes i j k v w p q =
    let same = one_place (IsSigned width) bytes i j k v w (λ a b x y f g e. one_end width width a b x y v w f g e) p q in
    (same.0, one_value width (slice_range bytes i k) v w (rw same.1 at p.spelled) q.spelled)
