-- A flow is split into walks, one at a time.
use Rattle.std.proofs.Common.{◌≡◌, ℕ, ◌+◌, ◌-◌, ◌*◌, ◌<◌, ◌≤◌, List, [], ◌∷◌, ◌++◌, reverse, length, refl, sym, ap, subst, ◌∙◌, arith, slice_index, nat_eq}
use Rattle.std.specs.List.{All, filter_map, count_by}
use Rattle.std.proofs.lemmas.List.Sums.{sum_by-append, sum_by-cons}
use Rattle.std.proofs.lemmas.List.Elements.{All-push, All-nil, All-from_get_or}
use Rattle.bl_flow.specs.declared.network.Network.{Network}
use Rattle.bl_flow.specs.declared.network.NodePath.{NodePath}
use Rattle.bl_flow.specs.declared.split.Link.{Link}
use Rattle.bl_flow.specs.declared.split_network.SplitNetwork.{SplitNetwork}
use Rattle.bl_flow.specs.Networks.{size, InRange, IsPath, load, carried}
use Rattle.bl_flow.specs.Split.{in_part, out_part, links_of, both_ways, link_at, entered}
use Rattle.bl_flow.specs.Flows.{amount_if, Carries, link_count, carried_by, IsFlow, IsCarried, IsTaken, LeadsBack}
use Rattle.bl_flow.specs.FullFlows.{IsPathTaken}
use Rattle.bl_flow.specs.Searches.{IsTrail}
use Rattle.bl_flow.specs.SplitNetworks.{IsSplitNetwork}
use Rattle.bl_flow.specs.Traces.{IsTraced}
use Rattle.bl_base.proofs.Sums.{sum_same}
use Rattle.bl_flow.proofs.Amounts.{carries_less}
use Rattle.bl_flow.proofs.ReverseLinks.{both_count}
use Rattle.bl_flow.proofs.SplitNetworks.{of_network}
use Rattle.bl_flow.proofs.Trails.{WalkOf, walk_of}

-- only the amounts at the links matter
carries_same : (links : List Link) (m : ℕ) (old new : ℕ → ℕ) (from to amount : ℕ) → ((k : ℕ) → k < m → new k ≡ old k) → Carries links m old from to amount → Carries links m new from to amount
carries_same links m old new from to amount same carries = λ set.
    let balance = carries set in
    let out_ = sum_same m (λ k. amount_if (set (link_at links k).from) (new k)) (λ k. amount_if (set (link_at links k).from) (old k)) (λ k lt. ap (amount_if (set (link_at links k).from)) (same k lt)) in
    let in_ = sum_same m (λ k. amount_if (set (link_at links k).to) (new k)) (λ k. amount_if (set (link_at links k).to) (old k)) (λ k lt. ap (amount_if (set (link_at links k).to)) (same k lt)) in
    omega arith

-- what the links carry is a flow
pub carries_first : (n : Network) (capacities carries : List ℕ) (amount : ℕ) → IsFlow n capacities amount
    → ((half : ℕ) → half + half ≡ length capacities → length carries ≡ half)
    → ((half k : ℕ) → half + half ≡ length capacities → k < half → slice_index carries k ≡ slice_index capacities (k + half))
    → IsCarried n carries amount
carries_first n capacities carries amount flow places all = record {
  places = places (link_count n) (sym flow.places);
  flow = carries_same (links_of n) (link_count n) (carried_by n capacities) (λ k. slice_index carries k) (in_part (size n)) (out_part (size n)) amount (λ k lt. all (link_count n) k (sym flow.places) lt) flow.carries;
}

module _ (n : Network) (range : InRange n) (carries : List ℕ) (left : ℕ) (is : IsCarried n carries left) where
  abbrev links : List Link
  links = both_ways (links_of n)

  module _ (trail : List ℕ) (capacity : ℕ) (on : IsTrail links carries (in_part (size n)) (out_part (size n)) trail capacity) (trail_below : (place : ℕ) → place < length trail → slice_index trail place < link_count n) where
    pub the_walk : WalkOf n range trail
    the_walk = walk_of n range trail (All-from_get_or (λ k. k < link_count n) trail 0 trail_below) on.back

    module _ (amount rest : ℕ) (after : List ℕ) (e : rest + amount ≡ left) (taken : IsTaken carries after trail amount) where
      pub carried_rest : IsCarried n after rest
      carried_rest = record {
        places = taken.places ∙ is.places;
        flow =
            carries_less (links_of n) (link_count n) (λ k. slice_index carries k) (λ k. slice_index after k) (in_part (size n)) (out_part (size n)) rest amount
            (subst (λ a. Carries (links_of n) (link_count n) (λ k. slice_index carries k) (in_part (size n)) (out_part (size n)) a) (sym e) is.flow)
            (taken.adds (links_of n) (in_part (size n)) (out_part (size n)) trail_below on.back);
      }

      pub path_of : (path : NodePath) → path.nodes ≡ reverse (filter_map (entered links) trail) → path.amount ≡ amount → 0 < amount → IsPath n path
      path_of path nodes is_amount some =
          let walk = the_walk in
          record {
            start = walk.start;
            before = walk.before;
            last = walk.last;
            from_a_start = walk.from_a_start;
            to_an_end = walk.to_an_end;
            walk = walk.walk;
            nodes = nodes ∙ walk.nodes;
            amount = omega arith;
          }

      pub path_loads : (path : NodePath) → path.nodes ≡ reverse (filter_map (entered links) trail) → path.amount ≡ amount
          → (v : ℕ) → v < size n → path.amount * count_by (λ u. nat_eq u v) path.nodes + slice_index after v ≡ slice_index carries v
      path_loads path nodes is_amount v lt =
          let walk = the_walk in
          let less = taken.less v in
          let counts = ap (count_by (λ u. nat_eq u v)) (nodes ∙ walk.nodes) ∙ walk.counts v lt in
          let same : path.amount * count_by (λ u. nat_eq u v) path.nodes ≡ amount * count_by (λ k. nat_eq k v) trail =
          ap (λ a. a * count_by (λ u. nat_eq u v) path.nodes) is_amount ∙ ap (λ c. amount * c) counts in
          omega arith

load_more : (paths : List NodePath) (path : NodePath) (v : ℕ) → load (paths ++ path ∷ []) v ≡ load paths v + path.amount * count_by (λ u. nat_eq u v) path.nodes
load_more paths path v =
    let whole = sum_by-append (λ p. p.amount * count_by (λ u. nat_eq u v) p.nodes) paths (path ∷ []) in
    let one = sum_by-cons (λ p. p.amount * count_by (λ u. nat_eq u v) p.nodes) path [] in
    omega arith

pub carried_more : (paths : List NodePath) (path : NodePath) → carried (paths ++ path ∷ []) ≡ carried paths + path.amount
carried_more paths path =
    let whole = sum_by-append (λ p. p.amount) paths (path ∷ []) in
    let one = sum_by-cons (λ p. p.amount) path [] in
    omega arith

-- so much of a flow is split into paths
pub record Splitting (n : Network) (first : List ℕ) (amount : ℕ) (paths : List NodePath) (carries : List ℕ) (left : ℕ) : Type 0 where
  pub rest : IsCarried n carries left
  pub walks : All (IsPath n) paths
  pub sum : carried paths + left ≡ amount
  pub loads : (v : ℕ) → v < size n → load paths v + slice_index carries v ≤ slice_index first v

-- a path more
pub splitting_more : (n : Network) (first : List ℕ) (total : ℕ) (paths : List NodePath) (carries : List ℕ) (left : ℕ) → Splitting n first total paths carries left
    → (path : NodePath) (after : List ℕ) → IsPathTaken n carries after left path → Splitting n first total (paths ++ path ∷ []) after (left - path.amount)
splitting_more n first total paths carries left so_far path after taken = record {
  rest = taken.rest;
  walks = All-push (IsPath n) paths path so_far.walks taken.walk;
  sum = let more = carried_more paths path in let before = so_far.sum in let most = taken.most in omega arith;
  loads = λ v lt.
      let more = load_more paths path v in
      let before = so_far.loads v lt in
      let less = taken.loads v lt in
      omega arith;
}

-- a walk of the trail is a path taken
pub path_taken : (n : Network) (range : InRange n) (carries : List ℕ) (left : ℕ) → IsCarried n carries left
    → (trail : List ℕ) (capacity : ℕ) → IsTrail (both_ways (links_of n)) carries (in_part (size n)) (out_part (size n)) trail capacity → ((place : ℕ) → place < length trail → slice_index trail place < link_count n)
    → (path : NodePath) (after : List ℕ) → path.amount ≤ left → 0 < path.amount → IsTaken carries after trail path.amount
    → path.nodes ≡ reverse (filter_map (entered (both_ways (links_of n))) trail) → IsPathTaken n carries after left path
path_taken n range carries left is trail capacity on below path after most some taken nodes = record {
  walk = path_of n range carries left is trail capacity on below path.amount (left - path.amount) after (omega arith) taken path nodes refl some;
  most = most;
  rest = carried_rest n range carries left is trail capacity on below path.amount (left - path.amount) after (omega arith) taken;
  loads = λ v lt. let same = path_loads n range carries left is trail capacity on below path.amount (left - path.amount) after (omega arith) taken path nodes refl v lt in omega arith;
}

pub splitting_begins : (n : Network) (carries : List ℕ) (amount : ℕ) → IsCarried n carries amount → Splitting n carries amount [] carries amount
splitting_begins n carries amount is = record {
  rest = is;
  walks = All-nil (IsPath n);
  sum = omega arith;
  loads = λ v lt. omega arith;
}

-- the same of more
pub path_of_more : (n : Network) (old mid new : List ℕ) (left : ℕ) (path : NodePath) → ((k : ℕ) → slice_index mid k ≤ slice_index old k) → IsPathTaken n mid new left path → IsPathTaken n old new left path
path_of_more n old mid new left path less taken = record {
  walk = taken.walk;
  most = taken.most;
  rest = taken.rest;
  loads = λ v lt. let a = taken.loads v lt in let b = less v in omega arith;
}

-- a traced trail is a trail
pub traced_trail : (n : Network) (split : SplitNetwork) (carries trail : List ℕ) (capacity : ℕ) → IsSplitNetwork n split
    → IsTraced split.links (link_count n) carries trail (2 * split.nodes) (2 * split.nodes + 1)
    → ((place : ℕ) → place < length trail → capacity ≤ slice_index carries (slice_index trail place)) → 0 < capacity → IsTrail (both_ways (links_of n)) carries (in_part (size n)) (out_part (size n)) trail capacity
traced_trail n split carries trail capacity is traced enough some = record {
  back = of_network n split is (λ links nodes. LeadsBack links trail (2 * nodes) (2 * nodes + 1)) traced.back;
  within = λ place lt. let below = traced.within place lt in let count = both_count (links_of n) in omega arith;
  enough = enough;
  apart = traced.apart;
  some_capacity = some;
}
