-- Unsigned numbers at a place, by the byte that stands there.
use Rattle.std.proofs.Common.{◌≡◌, ℕ, ◌+◌, ◌-◌, ◌*◌, ◌^◌, ◌<◌, ◌≤◌, List, [], length, get_or, refl, sym, subst, arith, slice_range, ◌⊎◌, inl, inr}
use Rattle.bl_leb.specs.Numbers.{IsUnsigned}
use Rattle.bl_leb.specs.Spellings.{IsSpelledAt, IsShortest}
use Rattle.bl_leb.proofs.Places.{spelled_one, spelled_more, begins, one_place}
use Rattle.bl_leb.proofs.Unsigned.{by_first, with_first, one_end, one_value}

-- no empty spelling
pub not_nothing : (width w : ℕ) → IsUnsigned width [] w → ⊥
not_nothing width w h = h

-- a byte in the last bits is a number
pub unsigned_one : (width : ℕ) (bytes : List ℕ) (i n : ℕ) → i < length bytes → n ≡ get_or bytes i n → n < 128 → n < 2 ^ width → IsSpelledAt (IsUnsigned width) bytes i (i + 1) n
unsigned_one width bytes i n inside is small fits = spelled_one (IsUnsigned width) bytes i n n inside is (small, fits, refl)

-- a byte from 128 on, and the number behind it
pub unsigned_more : (width : ℕ) (bytes : List ℕ) (i j n m : ℕ) → i < length bytes → n ≡ get_or bytes i n → 128 ≤ n → n < 256 → 7 < width → IsSpelledAt (IsUnsigned (width - 7)) bytes (i + 1) j m → IsSpelledAt (IsUnsigned width) bytes i j (128 * m + (n - 128))
unsigned_more width bytes i j n m inside is high byte wide h =
    spelled_more (IsUnsigned width) (IsUnsigned (width - 7)) bytes i j n (128 * m + (n - 128)) m inside is h (λ tail t. with_first width n tail m (128 * m + (n - 128)) high byte wide t refl)

-- a byte that fits neither rule begins no number
pub unsigned_never : (width : ℕ) (bytes : List ℕ) (i n : ℕ) → i < length bytes → n ≡ get_or bytes i n → ((n < 128) × (2 ^ width ≤ n)) ⊎ ((128 ≤ n) × (width ≤ 7)) → (v j : ℕ) → IsSpelledAt (IsUnsigned width) bytes i j v → ⊥
unsigned_never width bytes i n inside is bad v j h =
    let first = begins (IsUnsigned width) bytes i j n v inside is (not_nothing width) h in
    let cases = by_first width n (slice_range bytes (i + 1) j) v first.1 in
    elim cases [
      | inl one ↦ elim bad [ inl b ↦ omega arith | inr b ↦ omega arith ]
      | inr more ↦ elim bad [ inl b ↦ omega arith | inr b ↦ omega arith ]
    ]

-- a byte from 128 on begins no number where none begins behind it
pub unsigned_none : (width : ℕ) (bytes : List ℕ) (i n : ℕ) → i < length bytes → n ≡ get_or bytes i n → 128 ≤ n → ((m j : ℕ) → IsSpelledAt (IsUnsigned (width - 7)) bytes (i + 1) j m → ⊥) → (v j : ℕ) → IsSpelledAt (IsUnsigned width) bytes i j v → ⊥
unsigned_none width bytes i n inside is high none v j h =
    let first = begins (IsUnsigned width) bytes i j n v inside is (not_nothing width) h in
    let cases = by_first width n (slice_range bytes (i + 1) j) v first.1 in
    elim cases [
      | inl one ↦ omega arith
      | inr more ↦ none more.2 j (record { forward = omega (arith, first.0); inside = h.inside; spelled = more.3 })
    ]

-- at each place at most one number is spelled, and it ends at one place
pub unsigned_same : (width : ℕ) (bytes : List ℕ) (i j k v w : ℕ) → IsSpelledAt (IsUnsigned width) bytes i j v → IsSpelledAt (IsUnsigned width) bytes i k w → (j ≡ k) × (v ≡ w)
unsigned_same width bytes i j k v w p q =
    let same = one_place (IsUnsigned width) bytes i j k v w (λ a b x y f g e. one_end width width a b x y v w f g e) p q in
    (same.0, one_value width (slice_range bytes i k) v w (rw same.1 at p.spelled) q.spelled)

-- where what is spelled isn't the shortest, no shortest spelling begins
pub short_never : (width : ℕ) (bytes : List ℕ) (i j v : ℕ) → IsSpelledAt (IsUnsigned width) bytes i j v → ((w : ℕ) → IsShortest (IsUnsigned width) (slice_range bytes i j) w → ⊥) → (w k : ℕ) → IsSpelledAt (IsShortest (IsUnsigned width)) bytes i k w → ⊥
short_never width bytes i j v h never w k short =
    let here = unsigned_same width bytes i j k v w h (record { forward = short.forward; inside = short.inside; spelled = short.spelled.spelled }) in
    never w (subst (λ (e : ℕ). IsShortest (IsUnsigned width) (slice_range bytes i e) w) (sym here.0) short.spelled)
