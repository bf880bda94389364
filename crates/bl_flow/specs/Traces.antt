-- The trail that is traced back through what a flow carries.
use Rattle.std.specs.Prelude.{◌≡◌, ℕ, ◌<◌, ◌⊎◌, Bool, List, length, slice_index, nat_lt, nat_eq, ◌&&◌}
use Rattle.bl_flow.specs.declared.split.Link.{Link}
use Rattle.bl_flow.specs.Split.{link_at}
use Rattle.bl_flow.specs.Flows.{LeadsBack}
use Rattle.bl_flow.specs.Searches.{part_row}

-- a link before its part's pointer carries nothing
abbrev pub ArePassedOver : List ℕ → List (List ℕ) → List ℕ → Type 0
ArePassedOver carries rows passed =
    (part place : ℕ) → place < slice_index passed part → place < length (part_row rows part)
    → slice_index carries (slice_index (part_row rows part) place) ≡ 0

-- a link of a part's row that carries something
pub record Brings (carries row : List ℕ) : Type 0 where
  pub place : ℕ
  pub within : place < length row
  pub some : 0 < slice_index carries (slice_index row place)

-- a trail back from the end to a part by links that carry something; each part on it has its place on it
pub record OnTrace (links : List Link) (count : ℕ) (carries places trail : List ℕ) (end part : ℕ) : Type 0 where
  pub back : LeadsBack links trail part end
  pub within : (place : ℕ) → place < length trail → slice_index trail place < count
  pub some : (place : ℕ) → place < length trail → 0 < slice_index carries (slice_index trail place)
  pub placed : (place : ℕ) → place < length trail → slice_index places (link_at links (slice_index trail place)).to ≡ place

-- whether a part is on the trail
abbrev pub on_trail : List Link → List ℕ → List ℕ → ℕ → Bool
on_trail links trail places part =
    nat_lt (slice_index places part) (length trail) && nat_eq (link_at links (slice_index trail (slice_index places part))).to part

-- what comes to a part comes from somewhere: some link to it carries something
abbrev pub AreFed : List Link → ℕ → List ℕ → ℕ → ℕ → Type 0
AreFed links count carries root end =
    (part : ℕ) → (part ≡ root → ⊥)
    → (part ≡ end) ⊎ ((k : ℕ) × (k < count) × ((link_at links k).from ≡ part) × (0 < slice_index carries k))
    → (k : ℕ) × (k < count) × ((link_at links k).to ≡ part) × (0 < slice_index carries k)

-- a trail back from the end to the root by links that carry something, none of them twice
pub record IsTraced (links : List Link) (count : ℕ) (carries trail : List ℕ) (root end : ℕ) : Type 0 where
  pub back : LeadsBack links trail root end
  pub within : (place : ℕ) → place < length trail → slice_index trail place < count
  pub some : (place : ℕ) → place < length trail → 0 < slice_index carries (slice_index trail place)
  pub apart : (p q : ℕ) → p < q → q < length trail → slice_index trail p ≡ slice_index trail q → ⊥
