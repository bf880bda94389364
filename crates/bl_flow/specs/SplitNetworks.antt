-- Split networks as a search holds them.
use Rattle.std.specs.Prelude.{◌≡◌, ℕ, ◌+◌, ◌*◌, ◌/◌, ◌^◌, ◌<◌, List, length}
use Rattle.bl_flow.specs.declared.network.Network.{Network}
use Rattle.bl_flow.specs.declared.split_network.SplitNetwork.{SplitNetwork}
use Rattle.bl_flow.specs.Networks.{size, InRange}
use Rattle.bl_flow.specs.Split.{links_of, both_ways, link_at}
use Rattle.bl_flow.specs.AdjacencyLists.{reversed}
use Rattle.bl_flow.specs.Searches.{AreRows}
use Rattle.bl_flow.specs.Levels.{AreRowsIn}
use Rattle.bl_flow.specs.Traces.{ArePassedOver}

-- for each part the links to it
abbrev pub rows_in : SplitNetwork → List (List ℕ)
rows_in split = reversed (length split.links / 2) split.rows

-- the links of a network's split network both ways, row by row
pub record IsSplitNetwork (n : Network) (split : SplitNetwork) : Type 0 where
  pub in_range : InRange n
  pub nodes_ : split.nodes ≡ size n
  pub small : split.nodes < 2 ^ 60
  pub links_ : split.links ≡ both_ways (links_of n)
  pub rows_ : AreRows split.links split.rows
  pub parts : length split.rows ≡ 2 * size n + 2

-- links that lead from part to part, in the row of the one and in that to the other
pub record IsLinked (split : SplitNetwork) : Type 0 where
  pub small : split.nodes < 2 ^ 60
  pub parts : length split.rows ≡ 2 * split.nodes + 2
  pub rows_out : AreRows split.links split.rows
  pub rows_in_ : AreRowsIn split.links (rows_in split)
  pub froms : (k : ℕ) → k < length split.links → (link_at split.links k).from < length split.rows
  pub tos : (k : ℕ) → k < length split.links → (link_at split.links k).to < length split.rows

-- how many links to each part are passed, which carry nothing, and room for the place of each part on a trail
pub record IsTracing (split : SplitNetwork) (carries passed places : List ℕ) : Type 0 where
  pub passed_in : length passed ≡ length split.rows
  pub places_in : length places ≡ length split.rows
  pub over : ArePassedOver carries (rows_in split) passed
