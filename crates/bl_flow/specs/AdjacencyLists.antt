-- Compressed rows, and the counts of links that they are made by.
use Rattle.std.specs.Prelude.{◌≡◌, ℕ, suc, ◌+◌, ◌-◌, ◌^◌, ◌<◌, ◌≤◌, List, length, map, take, drop, slice_index, if◌then◌else◌, nat_lt}
use Rattle.std.specs.List.{range_with_len}
use Rattle.bl_base.specs.Sums.{sum_below}
use Rattle.bl_flow.specs.declared.split.Link.{Link}
use Rattle.bl_flow.specs.Split.{link_at}

-- where the rows begin: in order, and within the entries, whose number is one of 32 bits
pub record AreOffsets (offsets : List ℕ) (count : ℕ) : Type 0 where
  pub some : 0 < length offsets
  pub rise : (part : ℕ) → part + 1 < length offsets → slice_index offsets part ≤ slice_index offsets (part + 1)
  pub within : (part : ℕ) → slice_index offsets part ≤ count
  pub small : count < 2 ^ 32

-- a part's row
abbrev pub row_from : List ℕ → List ℕ → ℕ → List ℕ
row_from offsets entries part = take (slice_index offsets (part + 1) - slice_index offsets part) (drop (slice_index offsets part) entries)

-- the rows of all parts
abbrev pub rows_from : List ℕ → List ℕ → List (List ℕ)
rows_from offsets entries = map (row_from offsets entries) (range_with_len 0 (length offsets - 1))

-- where the reverse of a link stands among the links both ways
abbrev pub reverse_place : ℕ → ℕ → ℕ
reverse_place half k = (if nat_lt k half then k + half else k - half)

-- rows of the reverse links
abbrev pub reversed : ℕ → List (List ℕ) → List (List ℕ)
reversed half rows = map (map (reverse_place half)) rows

-- how many of the first so many links are from parts below one
abbrev pub from_below : List Link → ℕ → ℕ → ℕ
from_below links part k = sum_below k (λ j. if nat_lt (link_at links j).from part then 1 else 0)

-- for each part, and one more, how many of the first so many links are from it
pub record AreCounts (links : List Link) (parts k : ℕ) (counts : List ℕ) : Type 0 where
  pub places : length counts ≡ parts + 1
  pub each : (part : ℕ) → part < length counts → slice_index counts part + from_below links part k ≡ from_below links (suc part) k

-- for each part, and one more, where its row ends
pub record AreRowEnds (links : List Link) (ends : List ℕ) : Type 0 where
  pub some : 0 < length ends
  pub each : (part : ℕ) → part < length ends → slice_index ends part ≡ from_below links (suc part) (length links)
