-- What links can take, as it is kept.
use Rattle.std.specs.Prelude.{◌≡◌, ℕ, ◌+◌, ◌-◌, ◌^◌, ◌<◌, ◌≤◌, List, length, map, slice_index, if◌then◌else◌, nat_lt}
use Rattle.std.specs.List.{range_with_len}
use Rattle.bl_flow.specs.Flows.{AreReverse}

-- what a link both ways can still take: its reverse what it carries, and it what is left of its bound, which is known by its place behind
-- the links through the nodes
abbrev pub capacity_at : List ℕ → List ℕ → ℕ → ℕ
capacity_at through carried k =
    (if nat_lt k (length carried) then (if nat_lt k (length through) then slice_index through k else 2 ^ 63 - slice_index carried k)
    else slice_index carried (k - length carried))

-- the same of all links
abbrev pub both_capacities : List ℕ → List ℕ → List ℕ
both_capacities through carried = map (capacity_at through carried) (range_with_len 0 (length carried + length carried))

-- the links are at least so many, and none behind them carries more than its bound
pub record AreCarried (nodes : ℕ) (carried : List ℕ) : Type 0 where
  pub all : nodes ≤ length carried
  pub fit : (k : ℕ) → nodes ≤ k → slice_index carried k ≤ 2 ^ 63

-- a link can take so much less, and its reverse so much more
pub record Moved (now after : List ℕ) (j t d : ℕ) : Type 0 where
  pub here_ : slice_index after j + d ≡ slice_index now j
  pub there : slice_index after t ≡ slice_index now t + d
  pub others : (p : ℕ) → (p ≡ j → ⊥) → (p ≡ t → ⊥) → slice_index after p ≡ slice_index now p

-- so much more flows over a link
pub record IsMoved (now after : List ℕ) (link amount : ℕ) : Type 0 where
  pub places : length after ≡ length now
  pub moved : (half t : ℕ) → half + half ≡ length now → AreReverse half link t → Moved now after link t amount

-- what links can take that carry these amounts, none above the most, where what each can take both ways together is as it was
pub record AreCarrying (old after carried : List ℕ) (most : ℕ) : Type 0 where
  pub places : length after ≡ length old
  pub halves : length carried + length carried ≡ length old
  pub sums : (k : ℕ) → k < length carried →
      slice_index after k + slice_index after (k + length carried) ≡ slice_index old k + slice_index old (k + length carried)
  pub carries : (k : ℕ) → k < length carried → slice_index after (k + length carried) ≡ slice_index carried k
  pub limit : (k : ℕ) → k < length carried → slice_index carried k ≤ most

-- what the first links can still take, with what they carry now, is what they could take with what they carried before
pub record AreLeft (through before now left : List ℕ) : Type 0 where
  pub places : length left ≡ length through
  pub each : (v : ℕ) → v < length through → slice_index left v + slice_index now v ≡ slice_index through v + slice_index before v
