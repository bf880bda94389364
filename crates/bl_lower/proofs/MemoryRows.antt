-- A memory's rows are those of its bytes that aren't all zero.
use Rattle.std.proofs.Common.{◌≡◌, ℕ, zero, suc, ◌+◌, ◌-◌, ◌*◌, ◌≤◌, Bool, true, false, cond, List, [], ◌∷◌, ◌++◌, length, map, take, drop, replicate, refl, sym, ap, ap₂, ◌∙◌, arith, length-append, length-drop, append_assoc}
use Rattle.std.specs.Prelude.{◌/◌}
use Rattle.std.specs.List.{fold, filter, range_with_len}
use Rattle.std.proofs.Math.Seq.{drop-append-add}
use Rattle.std.proofs.lemmas.List.{append-nil, drop-replicate, drop-take, length-replicate, length-take-le, replicate-append-replicate, take-append-drop, take-take, take_all, take_at}
use Rattle.bl_program.specs.Outcomes.{with_row}
use Rattle.bl_program.specs.declared.definitions.MemRow.{MemRow}
use Rattle.bl_lower.specs.Trees.{memory_row_at, is_filled, rows_of}

abbrev zeros : ℕ → List ℕ
zeros n = replicate n 0

unfilled : (bytes : List ℕ) → is_filled bytes ≡ false → bytes ≡ zeros (length bytes)
unfilled [] e = refl
unfilled (zero ∷ bytes) e = ap (λ l. 0 ∷ l) (unfilled bytes e)
unfilled (suc byte ∷ bytes) e = absurd (cc e)

-- the first bytes, and zeros in place of the rest
abbrev begun : List ℕ → ℕ → List ℕ
begun bytes n = take n bytes ++ zeros (length bytes - n)

take_more : (m n : ℕ) (bytes : List ℕ) → take (m + n) bytes ≡ take m bytes ++ take n (drop m bytes)
take_more m n bytes = sym (take-append-drop m (take (m + n) bytes)) ∙ ap₂ (λ a b. a ++ b) (take-take m (m + n) bytes (omega arith)) (drop-take m n bytes)

module _ (bytes : List ℕ) where
  -- so many bytes more
  abbrev next_row : ℕ → List ℕ
  next_row number = take 16 (drop (number * 16) bytes)

  row_length : (number : ℕ) → number * 16 + 16 ≤ length bytes → length (next_row number) ≡ 16
  row_length number le = length-take-le 16 (drop (number * 16) bytes) (omega (arith, length-drop (number * 16) bytes, le))

  begun_length : (n : ℕ) → n ≤ length bytes → length (begun bytes n) ≡ length bytes
  begun_length n le = omega (arith, length-append (take n bytes) (zeros (length bytes - n)), length-take-le n bytes le, length-replicate {A = ℕ} (length bytes - n) 0, le)

  more : (number : ℕ) → number * 16 + 16 ≤ length bytes → begun bytes (suc number * 16) ≡ take (number * 16) bytes ++ (next_row number ++ zeros (length bytes - suc number * 16))
  more number le =
      let e : suc number * 16 ≡ number * 16 + 16 = omega arith in
      ap (λ n. take n bytes ++ zeros (length bytes - suc number * 16)) e ∙ ap (λ l. l ++ zeros (length bytes - suc number * 16)) (take_more (number * 16) 16 bytes)
      ∙ append_assoc (take (number * 16) bytes) (next_row number) (zeros (length bytes - suc number * 16))

  -- a row that is written
  written_row : (number : ℕ) → number * 16 + 16 ≤ length bytes → with_row (begun bytes (number * 16)) (memory_row_at bytes number) ≡ begun bytes (suc number * 16)
  written_row number le =
      let front = take (number * 16) bytes in
      let long : length front ≡ number * 16 = length-take-le (number * 16) bytes (omega (arith, le)) in
      let left = length bytes - suc number * 16 in
      let split : length bytes - number * 16 ≡ 16 + left = omega (arith, le) in
      let more_left : 16 + left - 16 ≡ left = omega arith in
      let all = begun bytes (number * 16) in
      let back : drop (number * 16 + length (next_row number)) all ≡ zeros left =
      ap (λ n. drop (number * 16 + n) all) (row_length number le) ∙ ap (λ n. drop (n + 16) all) (sym long) ∙ drop-append-add front (zeros (length bytes - number * 16)) 16
      ∙ ap (λ n. drop 16 (zeros n)) split ∙ drop-replicate {X = ℕ} 16 (16 + left) 0 ∙ ap zeros more_left in
      let whole : take (number * 16) all ++ next_row number ++ drop (number * 16 + length (next_row number)) all ≡ begun bytes (suc number * 16) =
      ap₂ (λ a b. a ++ next_row number ++ b) (take_at front (zeros (length bytes - number * 16)) (number * 16) long) back
      ∙ append_assoc front (next_row number) (zeros left) ∙ sym (more number le) in
      let sized : length (begun bytes (suc number * 16)) ≡ length all = begun_length (suc number * 16) (omega (arith, le)) ∙ sym (begun_length (number * 16) (omega (arith, le))) in
      ap (take (length all)) whole ∙ take_all (length all) (begun bytes (suc number * 16)) (omega (arith, sized))

  -- a row of zeros isn't
  zero_row : (number : ℕ) → number * 16 + 16 ≤ length bytes → is_filled (next_row number) ≡ false → begun bytes (number * 16) ≡ begun bytes (suc number * 16)
  zero_row number le e =
      let left = length bytes - suc number * 16 in
      let split : length bytes - number * 16 ≡ 16 + left = omega (arith, le) in
      ap (λ n. take (number * 16) bytes ++ zeros n) split ∙ ap (λ l. take (number * 16) bytes ++ l) (sym (replicate-append-replicate {A = ℕ} 16 left 0))
      ∙ ap (λ l. take (number * 16) bytes ++ (l ++ zeros left)) (sym (unfilled (next_row number) e ∙ ap zeros (row_length number le))) ∙ sym (more number le)

  rows_from : (count number : ℕ) → (number + count) * 16 ≡ length bytes
      → fold with_row (begun bytes (number * 16)) (filter (λ row. is_filled row.bytes) (map (memory_row_at bytes) (range_with_len number count))) ≡ bytes
  rows_from zero number e =
      let same : number * 16 ≡ length bytes = omega (arith, e) in
      let none : length bytes - number * 16 ≡ 0 = omega (arith, e) in
      ap₂ (λ a n. a ++ zeros n) (take_all (number * 16) bytes (omega (arith, same))) none ∙ append-nil bytes
  rows_from (suc count) number e = by_row (is_filled (next_row number)) refl (rows_from count (number + 1) (omega (arith, e)))
    where
      rest : List MemRow
      rest = filter (λ row. is_filled row.bytes) (map (memory_row_at bytes) (range_with_len (number + 1) count))

      le : number * 16 + 16 ≤ length bytes
      le = omega (arith, e)

      one : suc number * 16 ≡ (number + 1) * 16
      one = omega arith

      by_row : (b : Bool) → is_filled (next_row number) ≡ b → fold with_row (begun bytes ((number + 1) * 16)) rest ≡ bytes
          → fold with_row (begun bytes (number * 16)) (cond (is_filled (next_row number)) (memory_row_at bytes number ∷ rest) rest) ≡ bytes
      by_row true f h =
          ap (λ b. fold with_row (begun bytes (number * 16)) (cond b (memory_row_at bytes number ∷ rest) rest)) f
          ∙ ap (λ l. fold with_row l rest) (written_row number le ∙ ap (begun bytes) one) ∙ h
      by_row false f h =
          ap (λ b. fold with_row (begun bytes (number * 16)) (cond b (memory_row_at bytes number ∷ rest) rest)) f
          ∙ ap (λ l. fold with_row l rest) (zero_row number le f ∙ ap (begun bytes) one) ∙ h

pub rows_make : (bytes : List ℕ) (pages : ℕ) → length bytes ≡ pages * 65536 → fold with_row (replicate (pages * 65536) 0) (rows_of bytes) ≡ bytes
rows_make bytes pages e =
    let count : (0 + length bytes / 16) * 16 ≡ length bytes = omega (arith, e) in
    let size : pages * 65536 ≡ length bytes - 0 * 16 = omega (arith, e) in
    ap (λ n. fold with_row (replicate n 0) (rows_of bytes)) size ∙ rows_from bytes (length bytes / 16) 0 count
