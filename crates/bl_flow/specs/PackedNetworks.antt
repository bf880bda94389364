-- How a residual network is packed.
use Rattle.std.specs.Prelude.{ℕ, ◌-◌, ◌^◌, ◌<◌, List, Option, Some, None, IsSome}
use Rattle.bl_flow.specs.declared.network.Network.{Network}
use Rattle.bl_flow.specs.declared.split_network.SplitNetwork.{SplitNetwork}
use Rattle.bl_flow.specs.Networks.{size, weight_at, total_weight}
use Rattle.bl_flow.specs.Cuts.{Meets}
use Rattle.bl_flow.specs.Split.{links_of, both_ways, in_part, out_part}
use Rattle.bl_flow.specs.Flows.{IsFlow}
use Rattle.bl_flow.specs.SplitNetworks.{IsSplitNetwork}
use Rattle.bl_flow.specs.Levels.{AreLevels, IsBlocked}

-- the split network, with what each link can still take in a flow of so much
pub record IsPacked (n : Network) (split : SplitNetwork) (capacities : List ℕ) (amount : ℕ) : Type 0 where
  pub split_ : IsSplitNetwork n split
  pub bounded : Meets n (λ v. IsSome (weight_at n v))
  pub total : total_weight n < 2 ^ 63
  pub flow : IsFlow n capacities amount

-- a level counted from the starts' in places, where that of the part before them is 0
abbrev pub lowered : Option ℕ → Option ℕ
lowered None = None
lowered (Some d) = Some (d - 1)

-- more flows, and each walk to the part behind all ends is longer than its level was
pub record IsAdvanced (n : Network) (old new : List ℕ) (before after : ℕ) : Type 0 where
  pub flow : IsFlow n new after
  pub levels_ : List (Option ℕ)
  pub least : AreLevels (both_ways (links_of n)) old (in_part (size n)) (out_part (size n)) levels_
  pub blocked : IsBlocked (both_ways (links_of n)) levels_ (in_part (size n)) (out_part (size n)) new before after
