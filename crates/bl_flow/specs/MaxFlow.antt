-- What a maximum flow is, and what a search for one is given.
use Rattle.std.specs.Prelude.{◌≡◌, ℕ, ◌≤◌, ◌+◌, ◌*◌, ◌^◌, ◌<◌, Some, All, length}
use Rattle.bl_flow.specs.declared.layout.Layout.{Layout}
use Rattle.bl_flow.specs.declared.layout.Split.{Split}
use Rattle.bl_flow.specs.declared.network.FlowResult.{FlowResult}
use Rattle.bl_flow.specs.declared.network.Network.{Network}
use Rattle.bl_flow.specs.Networks.{size, weight_at, IsPath, load, carried}
use Rattle.bl_flow.specs.Cuts.{IsLeastCut}
use Rattle.bl_flow.specs.PackedNetworks.{IsPacked}
use Rattle.bl_flow.specs.Split.{both_ways, links_of}
use Rattle.bl_flow.specs.Flows.{IsFlow}
use Rattle.bl_flow.specs.Searches.{AreRows}

-- a maximum flow with the least cut: as much flows as that weighs
pub record IsMaxFlow (n : Network) (r : FlowResult) : Type 0 where
  pub paths : All (IsPath n) r.paths
  pub loads : (v w : ℕ) → weight_at n v ≡ Some w → load r.paths v ≤ w
  pub cut : IsLeastCut n r.cut
  pub weight : carried r.paths ≡ r.cut.weight

-- a network's links both ways, with what each can take before anything flows
pub record IsSplit (n : Network) (split : Split) : Type 0 where
  pub nodes_ : split.nodes ≡ size n
  pub small : split.nodes < 2 ^ 60
  pub links_ : split.links ≡ both_ways (links_of n)
  pub flow : IsFlow n split.capacities 0

-- the same, sorted by rows
pub record IsSorted (split : Split) (layout : Layout) : Type 0 where
  pub nodes_ : layout.split.nodes ≡ split.nodes
  pub links_ : layout.split.links ≡ split.links
  pub capacities_ : layout.capacities ≡ split.capacities
  pub rows_ : AreRows split.links layout.split.rows
  pub parts : length layout.split.rows ≡ 2 * split.nodes + 2

-- a network's links both ways, row by row, with what each can take before anything flows
abbrev pub IsLaidOut : Network → Layout → Type 0
IsLaidOut n layout = IsPacked n layout.split layout.capacities 0
