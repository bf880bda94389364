-- What a memory holds after bytes were written to it.
use Rattle.std.proofs.Common.{◌≡◌, ℕ, zero, suc, ◌+◌, ◌-◌, ◌*◌, ◌/◌, ◌%◌, ◌^◌, ◌<◌, ◌≤◌, ◌⊎◌, inl, inr, Bool, true, false, ◌&&◌, cond, leb, ltb, List, [], ◌∷◌, length, take, drop, slice_index, refl, sym, ap, ap₂, ◌∙◌, arith}
use Rattle.std.proofs.Math.Nat.{pow-suc}
use Rattle.std.proofs.Math.Seq.{drop-cons}
use Rattle.std.proofs.lemmas.Bool.Decides.{nat_tests}
use Rattle.std.proofs.lemmas.List.{take_all}
use Rattle.bl_base.specs.Bytes.{number_of, bytes_of}
use Rattle.bl_base.proofs.ByteLemmas.{length-bytes_of}
use Rattle.bl_x64.specs.Machines.{Bytes, bytes_at, written}

-- ---- one byte

inside_test : (from at n : ℕ) → from ≤ at → at < from + n → (leb from at && ltb at (from + n)) ≡ true
inside_test from at n h g = grind (arith, nat_tests)

before_test : (from at n : ℕ) → at < from → (leb from at && ltb at (from + n)) ≡ false
before_test from at n h = grind (arith, nat_tests)

behind_test : (from at n : ℕ) → from + n ≤ at → (leb from at && ltb at (from + n)) ≡ false
behind_test from at n h = by_first (leb from at) (ltb at (from + n)) (grind (arith, nat_tests))
  where
    by_first : (a b : Bool) → b ≡ false → (a && b) ≡ false
    by_first true b e = e
    by_first false b e = refl

pub written_inside : (m : Bytes) (from at : ℕ) (bytes : List ℕ) → from ≤ at → at < from + length bytes → written m from bytes at ≡ slice_index bytes (at - from)
written_inside m from at bytes h g = ap (λ t. cond t (slice_index bytes (at - from)) (m at)) (inside_test from at (length bytes) h g)

pub written_outside : (m : Bytes) (from at : ℕ) (bytes : List ℕ) → (at < from) ⊎ (from + length bytes ≤ at) → written m from bytes at ≡ m at
written_outside m from at bytes (inl h) = ap (λ t. cond t (slice_index bytes (at - from)) (m at)) (before_test from at (length bytes) h)
written_outside m from at bytes (inr h) = ap (λ t. cond t (slice_index bytes (at - from)) (m at)) (behind_test from at (length bytes) h)

-- ---- several bytes

pub bytes_outside : (m : Bytes) (from at count : ℕ) (bytes : List ℕ) → (at + count ≤ from) ⊎ (from + length bytes ≤ at)
    → bytes_at (written m from bytes) at count ≡ bytes_at m at count
bytes_outside m from at zero bytes h = refl
bytes_outside m from at (suc count) bytes (inl h) =
    ap₂ (λ x l. x ∷ l) (written_outside m from at bytes (inl (omega arith))) (bytes_outside m from (suc at) count bytes (inl (omega arith)))
bytes_outside m from at (suc count) bytes (inr h) =
    ap₂ (λ x l. x ∷ l) (written_outside m from at bytes (inr h)) (bytes_outside m from (suc at) count bytes (inr (omega arith)))

bytes_within : (m : Bytes) (from k count : ℕ) (bytes : List ℕ) → k + count ≤ length bytes → bytes_at (written m from bytes) (from + k) count ≡ take count (drop k bytes)
bytes_within m from k zero bytes h = refl
bytes_within m from k (suc count) bytes h =
    let lt : k < length bytes = omega arith in
    let place : from + k - from ≡ k = omega arith in
    let next : suc (from + k) ≡ from + suc k = omega arith in
    let first = written_inside m from (from + k) bytes (omega arith) (omega arith) ∙ ap (slice_index bytes) place in
    let more = ap (λ at. bytes_at (written m from bytes) at count) next ∙ bytes_within m from (suc k) count bytes (omega arith) in
    ap₂ (λ x l. x ∷ l) first more ∙ ap (take (suc count)) (sym (drop-cons bytes k 0 lt))

pub bytes_written : (m : Bytes) (from : ℕ) (bytes : List ℕ) → bytes_at (written m from bytes) from (length bytes) ≡ bytes
bytes_written m from bytes =
    ap (λ at. bytes_at (written m from bytes) at (length bytes)) (omega arith)
    ∙ bytes_within m from 0 (length bytes) bytes (omega arith) ∙ take_all (length bytes) bytes (omega arith)

-- ---- numbers in bytes

pub number_of_bytes : (width number : ℕ) → number < 256 ^ width → number_of (bytes_of width number) ≡ number
number_of_bytes zero number h = omega arith
number_of_bytes (suc width) number h =
    let rest = number_of_bytes width (number / 256) (omega (arith, pow-suc 256 width)) in
    omega (arith, rest)

pub number_written : (m : Bytes) (from width number : ℕ) → number < 256 ^ width → number_of (bytes_at (written m from (bytes_of width number)) from width) ≡ number
number_written m from width number h =
    ap (λ n. number_of (bytes_at (written m from (bytes_of width number)) from n)) (sym (length-bytes_of width number))
    ∙ ap number_of (bytes_written m from (bytes_of width number)) ∙ number_of_bytes width number h

-- ---- bytes stay below 2 ^ 8

byte_of : (width number k : ℕ) → slice_index (bytes_of width number) k < 2 ^ 8
byte_of zero number k = omega arith
byte_of (suc width) number zero = omega arith
byte_of (suc width) number (suc k) = byte_of width (number / 256) k

pub written_byte : (m : Bytes) (from width number at : ℕ) → m at < 2 ^ 8 → written m from (bytes_of width number) at < 2 ^ 8
written_byte m from width number at h = by_test (leb from at && ltb at (from + length (bytes_of width number)))
  where
    by_test : (t : Bool) → cond t (slice_index (bytes_of width number) (at - from)) (m at) < 2 ^ 8
    by_test true = byte_of width number (at - from)
    by_test false = h
