-- Residual networks: what the arcs carry, what the nodes are loaded with, and where more can flow.
use Rattle.std.specs.Prelude.{◌≡◌, ℕ, suc, ◌+◌, ◌-◌, ◌*◌, ◌<◌, ◌≤◌, ◌⊎◌, List, Option, Some, None, length, take, drop, slice_index, slice_index_or, Contains, nat_eq, if◌then◌else◌}
use Rattle.bl_base.specs.Sums.{sum_below}
use Rattle.bl_flow.specs.declared.network.Arc.{Arc}
use Rattle.bl_flow.specs.declared.network.Network.{Network}
use Rattle.bl_flow.specs.Networks.{size, weight_at, HasArc}
use Rattle.bl_flow.specs.Split.{in_part, out_part}
use Rattle.bl_flow.specs.Flows.{link_count}
use Rattle.bl_flow.specs.Levels.{level_at}

-- a network, what each of its arcs carries and what each of its nodes is loaded with
pub record Loaded : Type 0 where
  pub network : Network
  pub carried : List ℕ
  pub loads : List ℕ

-- an arc at its place
abbrev pub arc_at : Network → ℕ → Arc
arc_at n k = slice_index_or n.arcs k (record { from = 0; to = 0 })

-- what a node's arcs bring, and what they take away
abbrev pub brought : Loaded → ℕ → ℕ
brought r v = sum_below (length r.network.arcs) (λ k. (if nat_eq (arc_at r.network k).to v then slice_index r.carried k else 0))

abbrev pub taken_away : Loaded → ℕ → ℕ
taken_away r v = sum_below (length r.network.arcs) (λ k. (if nat_eq (arc_at r.network k).from v then slice_index r.carried k else 0))

-- a lawful flow: no node is loaded over its weight; its load is at least what its arcs bring and what they take away, and equal to
-- that unless the node is a start, or an end
pub record IsLawful (r : Loaded) : Type 0 where
  pub arcs : length r.carried ≡ length r.network.arcs
  pub nodes : length r.loads ≡ size r.network
  pub fits : (v w : ℕ) → weight_at r.network v ≡ Some w → slice_index r.loads v ≤ w
  pub brings : (v : ℕ) → v < size r.network → brought r v ≤ slice_index r.loads v
  pub brings_all : (v : ℕ) → v < size r.network → (Contains r.network.starts v → ⊥) → slice_index r.loads v ≡ brought r v
  pub takes : (v : ℕ) → v < size r.network → taken_away r v ≤ slice_index r.loads v
  pub takes_all : (v : ℕ) → v < size r.network → (Contains r.network.ends v → ⊥) → slice_index r.loads v ≡ taken_away r v

-- what a flow carries: the sum over all nodes of the load less what their arcs bring
abbrev pub amount_of : Loaded → ℕ
amount_of r = sum_below (size r.network) (λ v. slice_index r.loads v - brought r v)

-- the residual arcs: through a node that can take more and back through one that is loaded, along each arc and against one that
-- carries something
pub data IsResidualArc (r : Loaded) : ℕ → ℕ → Type 0 where
  through : (v : ℕ) → v < size r.network
      → (weight_at r.network v ≡ None) ⊎ ((w : ℕ) × (weight_at r.network v ≡ Some w) × (slice_index r.loads v < w))
      → IsResidualArc r (in_part v) (out_part v)
  back : (v : ℕ) → v < size r.network → 0 < slice_index r.loads v → IsResidualArc r (out_part v) (in_part v)
  along : (u v : ℕ) → HasArc r.network u v → IsResidualArc r (out_part u) (in_part v)
  against : (k : ℕ) → k < length r.network.arcs → 0 < slice_index r.carried k
      → IsResidualArc r (in_part (arc_at r.network k).to) (out_part (arc_at r.network k).from)

-- a walk of so many residual arcs from the in place of a start
pub data ResidualWalk (r : Loaded) : ℕ → ℕ → Type 0 where
  at_start : (s : ℕ) → Contains r.network.starts s → ResidualWalk r 0 (in_part s)
  go_on : (steps from to : ℕ) → ResidualWalk r steps from → IsResidualArc r from to → ResidualWalk r (suc steps) to

-- for each place the least number of residual arcs of a walk to it, and None exactly where there is no walk
pub record AreLevelsOf (r : Loaded) (levels : List (Option ℕ)) : Type 0 where
  pub places : length levels ≡ 2 * size r.network
  pub sound : (place d : ℕ) → level_at levels place ≡ Some d → ResidualWalk r d place
  pub least : (place steps : ℕ) → ResidualWalk r steps place → (d : ℕ) × (level_at levels place ≡ Some d) × (d ≤ steps)

-- some end's out place has a level
abbrev pub ReachesAnEnd : Network → List (Option ℕ) → Type 0
ReachesAnEnd n levels = (e d : ℕ) × Contains n.ends e × (level_at levels (out_part e) ≡ Some d)

-- each walk to the out place of an end is longer than the least level that such a place had
abbrev pub EndsHaveRisen : Loaded → List (Option ℕ) → Type 0
EndsHaveRisen r levels =
    (e steps : ℕ) → Contains r.network.ends e → ResidualWalk r steps (out_part e)
    → (least e' : ℕ) → Contains r.network.ends e' → level_at levels (out_part e') ≡ Some least
    → ((e'' d'' : ℕ) → Contains r.network.ends e'' → level_at levels (out_part e'') ≡ Some d'' → least ≤ d'')
    → least < steps

-- what links both ways carry, as loads and what arcs carry: the links through the nodes come first, and then those along the arcs
abbrev pub loaded_by : Network → List ℕ → Loaded
loaded_by n capacities = record {
  network = n;
  carried = take (length n.arcs) (drop (link_count n + size n) capacities);
  loads = take (size n) (drop (link_count n) capacities);
}
