-- Rows between offsets.
use Rattle.std.proofs.Common.{◌≡◌, ℕ, ◌+◌, ◌-◌, ◌<◌, ◌≤◌, List, [], length, drop, sym, ap, ◌∙◌, arith, inl, inr, slice_index, length-drop}
use Rattle.std.proofs.lemmas.Bool.{cases_lt}
use Rattle.std.proofs.lemmas.List.{get_or-take, get_or-drop, get_or_past, length-take-le}
use Rattle.std.proofs.lemmas.List.FromFn.{get_or-map-range_with_len, length-map-range_with_len}
use Rattle.bl_flow.specs.Searches.{part_row}
use Rattle.bl_flow.specs.AdjacencyLists.{AreOffsets, row_from, rows_from}

pub rows_count : (offsets entries : List ℕ) → length (rows_from offsets entries) ≡ length offsets - 1
rows_count offsets entries = length-map-range_with_len (row_from offsets entries) 0 (length offsets - 1)

pub row_is : (offsets entries : List ℕ) (part : ℕ) → part < length offsets - 1 → part_row (rows_from offsets entries) part ≡ row_from offsets entries part
row_is offsets entries part lt = get_or-map-range_with_len (row_from offsets entries) 0 (length offsets - 1) part part [] lt (omega arith)

module _ (offsets entries : List ℕ) (are : AreOffsets offsets (length entries)) (part : ℕ) (lt : part < length offsets - 1) where
  abbrev from_ : ℕ
  from_ = slice_index offsets part

  abbrev to_ : ℕ
  to_ = slice_index offsets (part + 1)

  pub row_length : length (row_from offsets entries part) ≡ to_ - from_
  row_length =
      let rise = are.rise part (omega arith) in
      let last = are.within (part + 1) in
      let rest = length-drop from_ entries in
      length-take-le (to_ - from_) (drop from_ entries) (omega arith)

  pub row_entry : (place : ℕ) → place < to_ - from_ → slice_index (row_from offsets entries part) place ≡ slice_index entries (from_ + place)
  row_entry place below = get_or-take (to_ - from_) (drop from_ entries) place 0 below ∙ get_or-drop from_ entries place 0

-- what the offsets of rows that are seen as a list of rows bound
pub record RowBounds (offsets entries : List ℕ) (rows : List (List ℕ)) (part : ℕ) : Type 0 where
  pub inside : part + 1 < length offsets
  pub rise : slice_index offsets part ≤ slice_index offsets (part + 1)
  pub within : slice_index offsets (part + 1) ≤ length entries
  pub row : part_row rows part ≡ row_from offsets entries part
  pub size : length (part_row rows part) ≡ slice_index offsets (part + 1) - slice_index offsets part

pub row_bounds : (offsets entries : List ℕ) (rows : List (List ℕ)) (part : ℕ) → rows_from offsets entries ≡ rows → AreOffsets offsets (length entries) → part < length rows → RowBounds offsets entries rows part
row_bounds offsets entries rows part view are lt =
    let count = rows_count offsets entries in
    let same = ap length view in
    let inside : part < length offsets - 1 = omega arith in
    let row : part_row rows part ≡ row_from offsets entries part = ap (λ r. part_row r part) (sym view) ∙ row_is offsets entries part inside in
    record {
      inside = omega arith;
      rise = are.rise part (omega arith);
      within = are.within (part + 1);
      row = row;
      size = ap length row ∙ row_length offsets entries are part inside;
    }

-- no row is longer than the entries
pub rows_short : (offsets entries : List ℕ) (rows : List (List ℕ)) → rows_from offsets entries ≡ rows → AreOffsets offsets (length entries) → (part most : ℕ) → length entries < most → length (part_row rows part) < most
rows_short offsets entries rows view are part most lt =
    elim (cases_lt part (length rows)) as (λ _. length (part_row rows part) < most) [
      | inl inside ↦ let b = row_bounds offsets entries rows part view are inside in let size = b.size in let within = b.within in omega arith
      | inr past ↦ let none = ap length (get_or_past rows part [] past) in omega arith
    ]
