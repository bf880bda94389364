-- The links and nodes of a split network by what they are of the network.
use Rattle.std.proofs.Common.{ℕ, List, sym, subst}
use Rattle.bl_flow.specs.declared.network.Network.{Network}
use Rattle.bl_flow.specs.declared.split.Link.{Link}
use Rattle.bl_flow.specs.declared.split_network.SplitNetwork.{SplitNetwork}
use Rattle.bl_flow.specs.Networks.{size}
use Rattle.bl_flow.specs.Split.{links_of, both_ways}
use Rattle.bl_flow.specs.SplitNetworks.{IsSplitNetwork}

module _ (n : Network) (split : SplitNetwork) (is : IsSplitNetwork n split) (P : List Link → ℕ → Type 0) where
  pub of_network : P split.links split.nodes → P (both_ways (links_of n)) (size n)
  of_network p = subst (λ links. P links (size n)) is.links_ (subst (P split.links) is.nodes_ p)

  pub of_split : P (both_ways (links_of n)) (size n) → P split.links split.nodes
  of_split p = subst (P split.links) (sym is.nodes_) (subst (λ links. P links (size n)) (sym is.links_) p)
