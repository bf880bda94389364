-- Lines and words by the places at which they end.
use Rattle.std.proofs.Common.{◌≡◌, ℕ, ◌+◌, ◌<◌, ◌≤◌, Bool, true, false, cond, if◌then◌else◌, not, List, [], ◌∷◌, length, take, drop, get_or, ◌-◌, suc, refl, sym, ap, subst, ◌∙◌, arith, ◌==◌}
use Rattle.std.proofs.lemmas.List.{take_all, take_rest, drop_all}
use Rattle.std.proofs.lemmas.List.Splits.{slice_split_first}
use Rattle.std.proofs.lemmas.List.Recursion.{is_count_by}
use Rattle.std.specs.List.{count_by, slice_split, onto_first, position_or_len, before_first, after_first}
use Rattle.bl_text.specs.Lines.{lines_of}

-- where no element passes there is one part
pub one_part : {X : Type 0} (p : X → Bool) (xs : List X) → length xs ≤ position_or_len p xs → slice_split p xs ≡ xs ∷ []
one_part p [] whole = refl
one_part p (x ∷ xs) whole =
    (elim (p x) as (λ b. suc (length xs) ≤ cond (not b) (1 + position_or_len p xs) 0 →
    cond b ([] ∷ slice_split p xs) (onto_first x (slice_split p xs)) ≡ (x ∷ xs) ∷ []) [
      | true ↦ λ e. absurd (omega (arith, e))
      | false ↦ λ e. let rest : slice_split p xs ≡ xs ∷ [] = one_part p xs (omega (arith, e)) in rw rest refl
    ]) whole

-- the first part ends at the first element that passes
pub first_part : {X : Type 0} (p : X → Bool) (xs : List X) (d : X) (n : ℕ) → n ≡ position_or_len p xs → n < length xs →
    slice_split p xs ≡ take n xs ∷ slice_split p (take (length xs - (n + 1)) (drop (n + 1) xs))
first_part p xs d n place within =
    subst (λ (m : ℕ). m < length xs → slice_split p xs ≡ take m xs ∷ slice_split p (take (length xs - (m + 1)) (drop (m + 1) xs)))
    (sym place)
    (λ inside. slice_split_first p xs d inside ∙ ap (λ rest. before_first p xs ∷ slice_split p rest) (sym (take_rest xs (position_or_len p xs + 1))))
    within

-- a first line with one more byte, no LF, before it
longer_line : (byte n : ℕ) (bytes : List ℕ) → lines_of bytes ≡ take n bytes ∷ lines_of (drop (n + 1) bytes) →
    onto_first byte (lines_of bytes) ≡ take (1 + n) (byte ∷ bytes) ∷ lines_of (drop (1 + n + 1) (byte ∷ bytes))
longer_line byte n bytes first =
    let one : 1 + n ≡ suc n = omega arith in
    let two : suc n + 1 ≡ suc (n + 1) = omega arith in
    rw (first, one, two) refl

-- the first line ends at the first LF, and the others begin behind it
pub first_line : (byte : ℕ) (bytes : List ℕ) →
    lines_of (byte ∷ bytes) ≡ before_first (λ b. b == 10) (byte ∷ bytes) ∷ lines_of (after_first (λ b. b == 10) (byte ∷ bytes))
first_line byte [] =
    elim (byte == 10) as (λ b. cond b ([] ∷ []) (onto_first byte []) ≡
    take (cond (not b) 1 0) (byte ∷ []) ∷ lines_of (drop (cond (not b) 1 0 + 1) (byte ∷ []))) [
      | true ↦ refl
      | false ↦ refl
    ]
first_line byte (next ∷ bytes) =
    elim (byte == 10) as (λ b. cond b ([] ∷ lines_of (next ∷ bytes)) (onto_first byte (lines_of (next ∷ bytes))) ≡
    take (cond (not b) (1 + position_or_len (λ b. b == 10) (next ∷ bytes)) 0) (byte ∷ next ∷ bytes)
    ∷ lines_of (drop (cond (not b) (1 + position_or_len (λ b. b == 10) (next ∷ bytes)) 0 + 1) (byte ∷ next ∷ bytes))) [
      | true ↦ refl
      | false ↦ longer_line byte _ (next ∷ bytes) (first_line next bytes)
    ]

-- the first line of bytes that aren't empty, up to the first LF, and the lines behind it
line_of_some : (bytes : List ℕ) (end : ℕ) → 0 < length bytes → end ≡ position_or_len (λ b. b == 10) bytes →
    lines_of bytes ≡ take end bytes ∷ lines_of (drop (end + 1) bytes)
line_of_some [] end some ends = absurd (omega (arith, some))
line_of_some (byte ∷ bytes) end some ends = first_line byte bytes ∙ ap (λ (n : ℕ). take n (byte ∷ bytes) ∷ lines_of (drop (n + 1) (byte ∷ bytes))) (sym ends)

-- there is no LF
pub line_alone : (bytes : List ℕ) (end : ℕ) → 0 < length bytes → end ≡ position_or_len (λ b. b == 10) bytes → end ≡ length bytes → lines_of bytes ≡ bytes ∷ lines_of []
line_alone bytes end some ends whole =
    line_of_some bytes end some ends
    ∙ ap (λ line. line ∷ lines_of (drop (end + 1) bytes)) (take_all end bytes (omega (arith, whole)))
    ∙ ap (λ rest. bytes ∷ lines_of rest) (drop_all (end + 1) bytes (omega (arith, whole)))

-- there is one, and what stands behind it is a slice
pub line_split : (bytes : List ℕ) (end : ℕ) → 0 < length bytes → end ≡ position_or_len (λ b. b == 10) bytes →
    lines_of bytes ≡ take end bytes ∷ lines_of (take (length bytes - (end + 1)) (drop (end + 1) bytes))
line_split bytes end some ends = line_of_some bytes end some ends ∙ ap (λ rest. take end bytes ∷ lines_of rest) (sym (take_rest bytes (end + 1)))

-- a byte onto the first of some lines
longer_by_one : (byte : ℕ) (lines : List (List ℕ)) → length (onto_first byte lines) ≤ suc (length lines)
longer_by_one byte [] = omega arith
longer_by_one byte (line ∷ lines) = omega arith

-- no text has more lines than bytes
pub few_lines : (bytes : List ℕ) → length (lines_of bytes) ≤ length bytes
few_lines [] = omega arith
few_lines (byte ∷ bytes) =
    let rest = few_lines bytes in
    elim (byte == 10) as (λ b. length (cond b ([] ∷ lines_of bytes) (onto_first byte (lines_of bytes))) ≤ suc (length bytes)) [
      | true ↦ omega (arith, rest)
      | false ↦ omega (arith, rest, longer_by_one byte (lines_of bytes))
    ]

-- ---- how many there are

-- a byte onto the first of some lines leaves as many, and one where there was none
onto_one : (byte : ℕ) (lines : List (List ℕ)) → 0 < length (onto_first byte lines)
onto_one byte [] = omega arith
onto_one byte (line ∷ lines) = omega arith

onto_some : (byte : ℕ) (lines : List (List ℕ)) → 0 < length lines → length (onto_first byte lines) ≡ length lines
onto_some byte [] some = absurd (omega (arith, some))
onto_some byte (line ∷ lines) some = refl

-- bytes have a line
some_line : (byte : ℕ) (bytes : List ℕ) → 0 < length (lines_of (byte ∷ bytes))
some_line byte bytes =
    elim (byte == 10) as (λ b. 0 < length (cond b ([] ∷ lines_of bytes) (onto_first byte (lines_of bytes)))) [
      | true ↦ omega arith
      | false ↦ onto_one byte (lines_of bytes)
    ]

-- a last line that lacks its LF, by its last byte
abbrev lacking : ℕ → ℕ
lacking byte = if byte == 10 then 0 else 1

-- each LF ends a line, and the last one may lack it
line_count : (byte : ℕ) (bytes : List ℕ) → length (lines_of (byte ∷ bytes)) ≡ count_by (λ b. b == 10) (byte ∷ bytes) + lacking (get_or (byte ∷ bytes) (length bytes) 0)
line_count byte bytes =
    go byte bytes ∙ ap (λ n. n + lacking (get_or (byte ∷ bytes) (length bytes) 0)) (is_count_by ended (λ b. b == 10) refl (λ byte bytes. refl) (byte ∷ bytes))
  where
    ended : List ℕ → ℕ
    ended [] = 0
    ended (byte ∷ bytes) = cond (byte == 10) (1 + ended bytes) (ended bytes)

    go : (byte : ℕ) (bytes : List ℕ) → length (lines_of (byte ∷ bytes)) ≡ ended (byte ∷ bytes) + lacking (get_or (byte ∷ bytes) (length bytes) 0)
    go byte [] = elim (byte == 10) as (λ b. length (cond b ([] ∷ []) (onto_first byte [])) ≡ cond b 1 0 + cond b 0 1) [ true ↦ refl | false ↦ refl ]
    go byte (next ∷ bytes) =
        let rest = go next bytes in
        let same = onto_some byte (lines_of (next ∷ bytes)) (some_line next bytes) in
        elim (byte == 10) as (λ b. length (cond b ([] ∷ lines_of (next ∷ bytes)) (onto_first byte (lines_of (next ∷ bytes)))) ≡
        cond b (1 + ended (next ∷ bytes)) (ended (next ∷ bytes)) + lacking (get_or (next ∷ bytes) (length bytes) 0)) [
          | true ↦ omega (arith, rest)
          | false ↦ same ∙ rest
        ]

-- the last byte is an LF, or isn't
pub whole_lines : (bytes : List ℕ) → 0 < length bytes → get_or bytes (length bytes - 1) 0 ≡ 10 → count_by (λ b. b == 10) bytes ≡ length (lines_of bytes)
whole_lines [] some last = absurd (omega (arith, some))
whole_lines (byte ∷ bytes) some last =
    let there : suc (length bytes) - 1 ≡ length bytes = omega arith in
    let none : lacking (get_or (byte ∷ bytes) (length bytes) 0) ≡ 0 = ap lacking (ap (λ n. get_or (byte ∷ bytes) n 0) (sym there) ∙ last) in
    omega (arith, line_count byte bytes, none)

pub lacking_line : (bytes : List ℕ) → 0 < length bytes → (get_or bytes (length bytes - 1) 0 ≡ 10 → ⊥) → count_by (λ b. b == 10) bytes + 1 ≡ length (lines_of bytes)
lacking_line [] some last = absurd (omega (arith, some))
lacking_line (byte ∷ bytes) some last =
    let there : suc (length bytes) - 1 ≡ length bytes = omega arith in
    let other : get_or (byte ∷ bytes) (length bytes) 0 ≡ 10 → ⊥ = λ e. last (ap (λ n. get_or (byte ∷ bytes) n 0) there ∙ e) in
    let one : lacking (get_or (byte ∷ bytes) (length bytes) 0) ≡ 1 = grind (arith, other) in
    omega (arith, line_count byte bytes, one)
