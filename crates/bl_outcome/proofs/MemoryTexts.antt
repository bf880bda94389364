-- Texts of memories, piece by piece.
use Rattle.std.proofs.Common.{◌≡◌, ◌≢◌, ℕ, suc, ◌+◌, ◌-◌, ◌<◌, ◌≤◌, false, List, [], ◌∷◌, ◌++◌, length, map, drop, get_or, append-nil, sym, ap, ◌∙◌, arith}
use Rattle.std.specs.Prelude.{◌==◌, ◌/◌, ◌%◌, codes, nat_lt, slice_index, ◌↔◌}
use Rattle.std.specs.Str.{bytes_eq}
use Rattle.std.specs.Fmt.{decimal, digit_glyph, digits}
use Rattle.std.specs.List.{enumerate_from, flat_map, range_with_len}
use Rattle.std.proofs.Math.Seq.{drop-cons}
use Rattle.std.proofs.lemmas.Bool.{cond-true, cond-false, false_from_ne_true, lt-ltb, le-ltb}
use Rattle.std.proofs.lemmas.List.Folds.{flat_map-map}
use Rattle.std.proofs.lemmas.List.{append_assoc, at_drop_all}
use Rattle.std.proofs.lemmas.Slice.Eq.{bytes_eq-Decides}
use Rattle.bl_base.specs.Runs.{MemoryState, memory_of}
use Rattle.bl_base.specs.declared.run.Pages.{Pages}
use Rattle.bl_outcome.specs.Outcomes.{bytes_at, hex_text, initial_bytes, memory_text, row_text}

-- ---- memories

module _ (initial : List MemoryState) (memories : List Pages) where
  -- the texts of the memories from one on
  abbrev pub texts_from : ℕ → List ℕ
  texts_from i = flat_map (λ each. memory_text each.0 (initial_bytes initial each.0) each.1) (enumerate_from i (map memory_of (drop i memories)))

  pub texts_next : (text : List ℕ) (i : ℕ) (memory d : Pages) → i < length memories → memory ≡ get_or memories i d
      → (text ++ memory_text i (initial_bytes initial i) (memory_of memory)) ++ texts_from (i + 1) ≡ text ++ texts_from i
  texts_next text i memory d lt is =
      let next : i + 1 ≡ suc i = omega arith in
      append_assoc text (memory_text i (initial_bytes initial i) (memory_of memory)) (texts_from (i + 1))
      ∙ ap (λ m. text ++ (memory_text i (initial_bytes initial i) (memory_of m) ++ texts_from (i + 1))) is
      ∙ ap (λ j. text ++ flat_map (λ each. memory_text each.0 (initial_bytes initial each.0) each.1) (enumerate_from i (map memory_of (get_or memories i d ∷ drop j memories)))) next
      ∙ ap (λ l. text ++ flat_map (λ each. memory_text each.0 (initial_bytes initial each.0) each.1) (enumerate_from i (map memory_of l))) (sym (drop-cons memories i d lt))

  pub texts_all : (text all : List ℕ) (i : ℕ) → length memories ≤ i → text ++ texts_from i ≡ all → text ≡ all
  texts_all text all i le e =
      sym (append-nil text)
      ∙ sym (at_drop_all (λ l. text ++ flat_map (λ each. memory_text each.0 (initial_bytes initial each.0) each.1) (enumerate_from i (map memory_of l))) memories i le) ∙ e

-- ---- bytes

-- the bytes from a place on, up to another
abbrev pub bytes_from : List ℕ → ℕ → ℕ → List ℕ
bytes_from bytes i n = bytes_at bytes i (n - i)

bytes_all : (bytes : List ℕ) (from count : ℕ) → bytes_at bytes from count ≡ bytes_from bytes from (from + count)
bytes_all bytes from count = let same : count ≡ from + count - from = omega arith in ap (bytes_at bytes from) same

module _ (old new : List ℕ) where
  pub same_begin : (from count : ℕ) → (bytes_at old from count ≡ bytes_at new from count) ↔ (bytes_from old from (from + count) ≡ bytes_from new from (from + count))
  same_begin from count = (
    λ e. sym (bytes_all old from count) ∙ e ∙ bytes_all new from count,
    λ e. bytes_all old from count ∙ e ∙ sym (bytes_all new from count),
  )

  bytes_next : (bytes : List ℕ) (i n : ℕ) → i < n → bytes_from bytes i n ≡ slice_index bytes i ∷ bytes_from bytes (i + 1) n
  bytes_next bytes i n lt = let count : n - i ≡ suc (n - (i + 1)) = omega arith in ap (bytes_at bytes i) count

  pub same_next : (P : Type 0) (i n : ℕ) → i < n → slice_index old i ≡ slice_index new i → (P ↔ (bytes_from old i n ≡ bytes_from new i n)) → P ↔ (bytes_from old (i + 1) n ≡ bytes_from new (i + 1) n)
  same_next P i n lt same iff = (
    λ p. tails (sym (bytes_next old i n lt) ∙ iff.0 p ∙ bytes_next new i n lt),
    λ e. iff.1 (bytes_next old i n lt ∙ (λ k. same k ∷ e k) ∙ sym (bytes_next new i n lt)),
  )
    where
      tails : slice_index old i ∷ bytes_from old (i + 1) n ≡ slice_index new i ∷ bytes_from new (i + 1) n → bytes_from old (i + 1) n ≡ bytes_from new (i + 1) n
      tails e = cc

  pub differ : (P : Type 0) (i n : ℕ) → i < n → slice_index old i ≢ slice_index new i → (P ↔ (bytes_from old i n ≡ bytes_from new i n)) → P → ⊥
  differ P i n lt other iff p = other (heads (sym (bytes_next old i n lt) ∙ iff.0 p ∙ bytes_next new i n lt))
    where
      heads : slice_index old i ∷ bytes_from old (i + 1) n ≡ slice_index new i ∷ bytes_from new (i + 1) n → slice_index old i ≡ slice_index new i
      heads e = ap (λ l. get_or l 0 0) e

-- the digits of bytes, byte by byte
pub hex_begin : (text bytes : List ℕ) (from count : ℕ)
    → text ++ flat_map (λ place. hex_text (slice_index bytes place)) (range_with_len from (from + count - from)) ≡ text ++ flat_map hex_text (bytes_at bytes from count)
hex_begin text bytes from count =
    let same : from + count - from ≡ count = omega arith in
    ap (λ k. text ++ flat_map (λ place. hex_text (slice_index bytes place)) (range_with_len from k)) same
    ∙ ap (λ l. text ++ l) (sym (flat_map-map hex_text (λ place. slice_index bytes place) (range_with_len from count)))

-- ---- digits

one_digit : (n : ℕ) → n < 16 → digits 16 false n ≡ digit_glyph false n ∷ []
unfolding digits
one_digit n lt =
    let quotient : n / 16 ≡ 0 = omega arith in
    let rest : n % 16 ≡ n = omega arith in
    cond-true (n / 16 == 0) _ _ (ap (λ q. q == 0) quotient) ∙ ap (λ k. digit_glyph false k ∷ []) rest

pub low_digit : (n : ℕ) → n < 10 → digits 16 false n ≡ (48 + n) ∷ []
low_digit n lt = one_digit n (omega arith) ∙ ap (λ d. d ∷ []) (cond-true (nat_lt n 10) _ _ (lt-ltb n 10 lt))

pub high_digit : (n : ℕ) → 10 ≤ n → n < 16 → digits 16 false n ≡ (87 + n) ∷ []
high_digit n le lt = one_digit n lt ∙ ap (λ d. d ∷ []) (cond-false (nat_lt n 10) _ _ (le-ltb n 10 le))

-- ---- pieces in one text

-- a text of two numbers, piece by piece
pub two_numbers : (head one middle other tail : List ℕ) → head ++ (one ++ (middle ++ (other ++ tail))) ≡ head ++ one ++ middle ++ other ++ tail
two_numbers head one middle other tail = simp append_assoc

behind : (text head rest tail : List ℕ) → text ++ head ++ rest ++ tail ≡ text ++ (head ++ rest ++ tail)
behind text head rest tail = simp append_assoc

-- a row that differs, and one that doesn't
pub row_other : (number offset : ℕ) (text before bytes : List ℕ) → (bytes_at before offset 16 ≡ bytes_at bytes offset 16 → ⊥)
    → text ++ (codes "row " ++ decimal number ++ codes " " ++ decimal offset ++ codes " ") ++ flat_map hex_text (bytes_at bytes offset 16) ++ 10 ∷ [] ≡ text ++ row_text number before bytes offset
row_other number offset text before bytes other =
    behind text (codes "row " ++ decimal number ++ codes " " ++ decimal offset ++ codes " ") (flat_map hex_text (bytes_at bytes offset 16)) (10 ∷ [])
    ∙ ap (λ t. text ++ t) (sym (cond-false (bytes_eq (bytes_at before offset 16) (bytes_at bytes offset 16)) _ _
    (false_from_ne_true _ (λ e. other ((bytes_eq-Decides (bytes_at before offset 16) (bytes_at bytes offset 16)).0 e)))))

pub row_same : (number offset : ℕ) (text before bytes : List ℕ) → bytes_at before offset 16 ≡ bytes_at bytes offset 16 → text ≡ text ++ row_text number before bytes offset
row_same number offset text before bytes same =
    sym (append-nil text) ∙ ap (λ t. text ++ t) (sym (cond-true (bytes_eq (bytes_at before offset 16) (bytes_at bytes offset 16)) _ _ ((bytes_eq-Decides (bytes_at before offset 16) (bytes_at bytes offset 16)).1 same)))
