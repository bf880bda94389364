-- Links through nodes, and those behind them.
use Rattle.std.proofs.Common.{◌≡◌, ℕ, ◌+◌, ◌-◌, ◌<◌, ◌≤◌, List, length, map, ◌∙◌, arith, length-append}
use Rattle.std.specs.List.{range_with_len}
use Rattle.std.proofs.lemmas.List.{get_or_append_left, get_or-append_right}
use Rattle.std.proofs.lemmas.List.FromFn.{length-map-range_with_len, get_or-map-range_with_len}
use Rattle.bl_flow.specs.declared.split.Link.{Link}
use Rattle.bl_flow.specs.Split.{node_link, links_behind, link_at}

module _ (nodes : ℕ) (outer : List Link) where
  abbrev front : List Link
  front = map node_link (range_with_len 0 nodes)

  pub behind_count : length (links_behind nodes outer) ≡ nodes + length outer
  behind_count = let e = length-map-range_with_len node_link 0 nodes in omega (arith, length-append front outer)

  pub through_at : (k : ℕ) → k < nodes → link_at (links_behind nodes outer) k ≡ node_link k
  through_at k lt =
      let within : k < length front = let e = length-map-range_with_len node_link 0 nodes in omega arith in
      get_or_append_left front outer _ k within ∙ get_or-map-range_with_len node_link 0 nodes k k _ lt (omega arith)

  pub behind_at : (k : ℕ) → nodes ≤ k → link_at (links_behind nodes outer) k ≡ link_at outer (k - nodes)
  behind_at k above = get_or-append_right front outer nodes k _ (length-map-range_with_len node_link 0 nodes) above
