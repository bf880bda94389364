-- A network is known by its links and what they can take; so a proof can name it where no code holds it.
use Rattle.std.proofs.Common.{◌≡◌, ℕ, ◌+◌, ◌*◌, ◌/◌, ◌^◌, ◌<◌, List, [], ◌∷◌, ◌++◌, length, Option, Some, None, false, map, take, drop, slice_index, unwrap_or, if◌then◌else◌, nat_lt, nat_eq, refl, sym, ap, subst, ◌∙◌, arith}
use Rattle.std.specs.Prelude.{Result, Ok, Err, IfOk, IsSome}
use Rattle.std.specs.List.{filter_map, cons_option, range_with_len}
use Rattle.std.proofs.lemmas.Bool.{lt-ltb, le-ltb, eq-eqb, ne_eqb}
use Rattle.std.proofs.lemmas.List.{ext_get_or, append-nil}
use Rattle.std.proofs.lemmas.List.Elements.{filter_map-append}
use Rattle.std.proofs.lemmas.List.FromFn.{length-map-range_with_len, get_or-map-range_with_len}
use Rattle.std.proofs.lemmas.Option.{unwrap_or-slice_get}
use Rattle.std.proofs.Math.Seq.{take-append_seam, drop-append_seam}
use Rattle.bl_base.proofs.Sums.{sum_term}
use Rattle.bl_flow.specs.declared.network.Arc.{Arc}
use Rattle.bl_flow.specs.declared.layout.Layout.{Layout}
use Rattle.bl_flow.specs.declared.layout.Split.{Split}
use Rattle.bl_flow.specs.declared.network.Network.{Network}
use Rattle.bl_flow.specs.declared.split.Link.{Link}
use Rattle.bl_flow.specs.declared.split_network.SplitNetwork.{SplitNetwork}
use Rattle.bl_flow.specs.Networks.{InRange, size, weight_at, total_weight}
use Rattle.bl_flow.specs.Split.{in_part, out_part, arc_link, start_link, end_link, links_of, link_at, both_ways, reverse_link}
use Rattle.bl_flow.specs.Flows.{link_count, IsFlow}
use Rattle.bl_flow.specs.Levels.{AreLevels, IsBlocked}
use Rattle.bl_flow.specs.Cuts.{Meets}
use Rattle.bl_flow.specs.Searches.{AreRows}
use Rattle.bl_flow.specs.SplitNetworks.{IsSplitNetwork}
use Rattle.bl_flow.specs.MaxFlow.{IsSplit, IsSorted, IsLaidOut}
use Rattle.bl_flow.specs.PackedNetworks.{IsPacked, IsAdvanced}
use Rattle.bl_flow.proofs.Links.{count_of, nodes_part, outer_part, nodes_length}
use Rattle.bl_flow.proofs.LinksWithin.{from_within}
use Rattle.bl_flow.proofs.SplitNetworks.{of_network, of_split}
use Rattle.bl_flow.proofs.LastLevels.{half_count}

-- the arc, the start or the end that a link behind those through the nodes is of
abbrev arc_of : ℕ → Link → Option Arc
arc_of nodes link =
    (if nat_eq link.from (in_part nodes) then None else (if nat_eq link.to (out_part nodes) then None else Some (record { from = link.from / 2; to = link.to / 2 })))

abbrev start_of : ℕ → Link → Option ℕ
start_of nodes link = (if nat_eq link.from (in_part nodes) then Some (link.to / 2) else None)

abbrev end_of : ℕ → Link → Option ℕ
end_of nodes link = (if nat_eq link.to (out_part nodes) then Some (link.from / 2) else None)

-- the weight of a node whose link can take so much, where so much is no bound
abbrev weight_of : ℕ → ℕ → Option ℕ
weight_of unbounded most = (if nat_lt most unbounded then Some most else None)

-- the weights of so many nodes
abbrev weights_of : ℕ → ℕ → List ℕ → List (Option ℕ)
weights_of nodes half capacities = map (λ k. weight_of (2 ^ 63) (slice_index capacities k + slice_index capacities (k + half))) (range_with_len 0 nodes)

-- the links behind those through the nodes
abbrev outer_of : ℕ → ℕ → List Link → List Link
outer_of nodes half links = drop nodes (take half links)

abbrev pub network_of : ℕ → List Link → List ℕ → Network
network_of nodes links capacities = record {
  weights = weights_of nodes (length links / 2) capacities;
  arcs = filter_map (arc_of nodes) (outer_of nodes (length links / 2) links);
  starts = filter_map (start_of nodes) (outer_of nodes (length links / 2) links);
  ends = filter_map (end_of nodes) (outer_of nodes (length links / 2) links);
}

-- what is mapped and then mapped back
comes_back : {X Y : Type 0} (f : X → Y) (h : Y → Option X) → ((x : X) → h (f x) ≡ Some x) → (xs : List X) → filter_map h (map f xs) ≡ xs
comes_back f h each [] = refl
comes_back f h each (x ∷ xs) = ap (λ o. cons_option o (filter_map h (map f xs))) (each x) ∙ ap (λ rest. x ∷ rest) (comes_back f h each xs)

none_comes : {X Y Z : Type 0} (f : X → Y) (h : Y → Option Z) → ((x : X) → h (f x) ≡ None) → (xs : List X) → filter_map h (map f xs) ≡ []
none_comes f h each [] = refl
none_comes f h each (x ∷ xs) = ap (λ o. cons_option o (filter_map h (map f xs))) (each x) ∙ none_comes f h each xs

-- a weight is known by what its node's link can take
weight_back : (unbounded : ℕ) (o : Option ℕ) → unwrap_or o 0 < unbounded → weight_of unbounded (unwrap_or o unbounded) ≡ o
weight_back unbounded None lt = ap (λ b. if b then Some unbounded else None) (le-ltb unbounded unbounded (omega arith))
weight_back unbounded (Some w) lt = ap (λ b. if b then Some w else None) (lt-ltb w unbounded lt)

-- which kind each link is of
an_arc : (nodes : ℕ) (arc : Arc) → arc_of nodes (arc_link arc) ≡ Some arc
an_arc nodes arc =
    let x : Arc = record { from = (2 * arc.from + 1) / 2; to = (2 * arc.to) / 2 } in
    let first : nat_eq (2 * arc.from + 1) (2 * nodes) ≡ false = ne_eqb (2 * arc.from + 1) (2 * nodes) (λ q. omega arith) in
    let second : nat_eq (2 * arc.to) (2 * nodes + 1) ≡ false = ne_eqb (2 * arc.to) (2 * nodes + 1) (λ q. omega arith) in
    let a : (2 * arc.from + 1) / 2 ≡ arc.from = omega arith in
    let b : (2 * arc.to) / 2 ≡ arc.to = omega arith in
    ap (λ t. if t then None else (if nat_eq (2 * arc.to) (2 * nodes + 1) then None else Some x)) first ∙ ap (λ t. if t then None else Some x) second
    ∙ ap (λ u. Some (record { from = u; to = (2 * arc.to) / 2 })) a ∙ ap (λ v. Some (record { from = arc.from; to = v })) b

no_arc_at_start : (nodes v : ℕ) → arc_of nodes (start_link nodes v) ≡ None
no_arc_at_start nodes v =
    let x : Arc = record { from = (2 * nodes) / 2; to = (2 * v) / 2 } in
    ap (λ t. if t then None else (if nat_eq (2 * v) (2 * nodes + 1) then None else Some x)) (eq-eqb (2 * nodes) (2 * nodes) refl)

no_arc_at_end : (nodes v : ℕ) → arc_of nodes (end_link nodes v) ≡ None
no_arc_at_end nodes v =
    let x : Arc = record { from = (2 * v + 1) / 2; to = (2 * nodes + 1) / 2 } in
    ap (λ t. if t then None else (if nat_eq (2 * nodes + 1) (2 * nodes + 1) then None else Some x)) (ne_eqb (2 * v + 1) (2 * nodes) (λ q. omega arith))
    ∙ ap (λ t. if t then None else Some x) (eq-eqb (2 * nodes + 1) (2 * nodes + 1) refl)

a_start : (nodes v : ℕ) → start_of nodes (start_link nodes v) ≡ Some v
a_start nodes v =
    let same : (2 * v) / 2 ≡ v = omega arith in
    ap (λ t. if t then Some ((2 * v) / 2) else None) (eq-eqb (2 * nodes) (2 * nodes) refl) ∙ ap Some same

no_start : (nodes u to : ℕ) → start_of nodes (record { from = 2 * u + 1; to = to }) ≡ None
no_start nodes u to = ap (λ t. if t then Some (to / 2) else None) (ne_eqb (2 * u + 1) (2 * nodes) (λ q. omega arith))

an_end : (nodes v : ℕ) → end_of nodes (end_link nodes v) ≡ Some v
an_end nodes v =
    let same : (2 * v + 1) / 2 ≡ v = omega arith in
    ap (λ t. if t then Some ((2 * v + 1) / 2) else None) (eq-eqb (2 * nodes + 1) (2 * nodes + 1) refl) ∙ ap Some same

no_end : (nodes from v : ℕ) → end_of nodes (record { from = from; to = 2 * v }) ≡ None
no_end nodes from v = ap (λ t. if t then Some (from / 2) else None) (ne_eqb (2 * v) (2 * nodes + 1) (λ q. omega arith))

module _ (n : Network) where
  outer_is : outer_of (size n) (link_count n) (both_ways (links_of n)) ≡ outer_part n
  outer_is =
      ap (drop (size n)) (take-append_seam (links_of n) (map reverse_link (links_of n)))
      ∙ subst (λ m. drop m (nodes_part n ++ outer_part n) ≡ outer_part n) (nodes_length n) (drop-append_seam (nodes_part n) (outer_part n))

  -- of the links behind those through the nodes, what is of each kind
  by_kinds : {Z : Type 0} (h : Link → Option Z) (a b c : List Z)
      → filter_map h (map arc_link n.arcs) ≡ a → filter_map h (map (start_link (size n)) n.starts) ≡ b → filter_map h (map (end_link (size n)) n.ends) ≡ c
      → filter_map h (outer_of (size n) (link_count n) (both_ways (links_of n))) ≡ a ++ (b ++ c)
  by_kinds h a b c arcs starts ends =
      ap (filter_map h) outer_is
      ∙ filter_map-append h (map arc_link n.arcs) (map (start_link (size n)) n.starts ++ map (end_link (size n)) n.ends)
      ∙ ap (λ rest. filter_map h (map arc_link n.arcs) ++ rest) (filter_map-append h (map (start_link (size n)) n.starts) (map (end_link (size n)) n.ends))
      ∙ ap (λ front. front ++ (filter_map h (map (start_link (size n)) n.starts) ++ filter_map h (map (end_link (size n)) n.ends))) arcs
      ∙ ap (λ front. a ++ (front ++ filter_map h (map (end_link (size n)) n.ends))) starts
      ∙ ap (λ rest. a ++ (b ++ rest)) ends

  arcs_back : filter_map (arc_of (size n)) (outer_of (size n) (link_count n) (both_ways (links_of n))) ≡ n.arcs
  arcs_back =
      by_kinds (arc_of (size n)) n.arcs [] [] (comes_back arc_link (arc_of (size n)) (an_arc (size n)) n.arcs)
      (none_comes (start_link (size n)) (arc_of (size n)) (no_arc_at_start (size n)) n.starts) (none_comes (end_link (size n)) (arc_of (size n)) (no_arc_at_end (size n)) n.ends)
      ∙ append-nil n.arcs

  starts_back : filter_map (start_of (size n)) (outer_of (size n) (link_count n) (both_ways (links_of n))) ≡ n.starts
  starts_back =
      by_kinds (start_of (size n)) [] n.starts [] (none_comes arc_link (start_of (size n)) (λ arc. no_start (size n) arc.from (2 * arc.to)) n.arcs)
      (comes_back (start_link (size n)) (start_of (size n)) (a_start (size n)) n.starts) (none_comes (end_link (size n)) (start_of (size n)) (λ v. no_start (size n) v (2 * size n + 1)) n.ends)
      ∙ append-nil n.starts

  ends_back : filter_map (end_of (size n)) (outer_of (size n) (link_count n) (both_ways (links_of n))) ≡ n.ends
  ends_back =
      by_kinds (end_of (size n)) [] [] n.ends (none_comes arc_link (end_of (size n)) (λ arc. no_end (size n) (2 * arc.from + 1) arc.to) n.arcs)
      (none_comes (start_link (size n)) (end_of (size n)) (λ v. no_end (size n) (2 * size n) v) n.starts) (comes_back (end_link (size n)) (end_of (size n)) (an_end (size n)) n.ends)

  weights_back : (capacities : List ℕ) (amount : ℕ) → IsFlow n capacities amount → total_weight n < 2 ^ 63 → weights_of (size n) (link_count n) capacities ≡ n.weights
  weights_back capacities amount flow total =
      ext_get_or None (weights_of (size n) (link_count n) capacities) n.weights (length-map-range_with_len weight 0 (size n)) (λ k lt.
      let inside : k < size n = let count = length-map-range_with_len weight 0 (size n) in omega arith in
      let fits = let count = count_of n in flow.fits k (omega arith) in
      let small = sum_term (size n) (λ v. unwrap_or (weight_at n v) 0) k inside in
      get_or-map-range_with_len weight 0 (size n) k k None inside (omega arith) ∙ ap (weight_of (2 ^ 63)) fits ∙ weight_back (2 ^ 63) (weight_at n k) (omega arith)
      ∙ unwrap_or-slice_get n.weights k None)
    where
      weight : ℕ → Option ℕ
      weight k = weight_of (2 ^ 63) (slice_index capacities k + slice_index capacities (k + link_count n))

-- the network that was laid out
pub is_rebuilt : (n : Network) (split : SplitNetwork) (capacities : List ℕ) (amount : ℕ) → IsPacked n split capacities amount → n ≡ network_of split.nodes split.links capacities
is_rebuilt n split capacities amount packed =
    let half : length split.links / 2 ≡ link_count n = half_count n split.links packed.split_.links_ in
    let whole : network_of (size n) (both_ways (links_of n)) capacities ≡ n = rebuilt (ap (λ l. length l / 2) (sym packed.split_.links_) ∙ half) in
    of_split n split packed.split_ (λ links nodes. n ≡ network_of nodes links capacities) (sym whole)
  where
    named : (weights : List (Option ℕ)) (arcs : List Arc) (starts ends : List ℕ) → weights ≡ n.weights → arcs ≡ n.arcs → starts ≡ n.starts → ends ≡ n.ends
        → record { weights = weights; arcs = arcs; starts = starts; ends = ends } ≡ n
    named weights arcs starts ends a b c d =
        let N : Type 0 = Network in
        let first : List (Option ℕ) → N = λ w. record { weights = w; arcs = arcs; starts = starts; ends = ends } in
        let second : List Arc → N = λ x. record { weights = n.weights; arcs = x; starts = starts; ends = ends } in
        let third : List ℕ → N = λ x. record { weights = n.weights; arcs = n.arcs; starts = x; ends = ends } in
        let fourth : List ℕ → N = λ x. record { weights = n.weights; arcs = n.arcs; starts = n.starts; ends = x } in
        ap first a ∙ ap second b ∙ ap third c ∙ ap fourth d

    at_half : ℕ → Network
    at_half half = record {
      weights = weights_of (size n) half capacities;
      arcs = filter_map (arc_of (size n)) (outer_of (size n) half (both_ways (links_of n)));
      starts = filter_map (start_of (size n)) (outer_of (size n) half (both_ways (links_of n)));
      ends = filter_map (end_of (size n)) (outer_of (size n) half (both_ways (links_of n)));
    }

    rebuilt : length (both_ways (links_of n)) / 2 ≡ link_count n → network_of (size n) (both_ways (links_of n)) capacities ≡ n
    rebuilt half = ap at_half half ∙ named _ _ _ _ (weights_back n capacities amount packed.flow packed.total) (arcs_back n) (starts_back n) (ends_back n)

-- the same split network, with another flow
pub packed_again : (n : Network) (split : SplitNetwork) (old new : List ℕ) (before after : ℕ) → IsPacked n split old before → IsFlow n new after → IsPacked n split new after
packed_again n split old new before after packed flow = record {
  split_ = packed.split_;
  bounded = packed.bounded;
  total = packed.total;
  flow = flow;
}

-- what a blocking flow comes to, of the network
pub advanced_by : {E : Type 0} (n : Network) (split : SplitNetwork) (old new : List ℕ) (amount : ℕ) (levels seen : List (Option ℕ)) (result : Result ℕ E) → IsSplitNetwork n split → seen ≡ levels
    → AreLevels split.links old (2 * split.nodes) (2 * split.nodes + 1) levels → IfOk result (IsFlow n new)
    → IfOk result (IsBlocked split.links seen (2 * split.nodes) (2 * split.nodes + 1) new amount) → IfOk result (IsAdvanced n old new amount)
advanced_by n split old new amount levels seen (Err e) is same are flow blocked = tt
advanced_by n split old new amount levels seen (Ok now) is same are flow blocked = record {
  flow = flow;
  levels_ = levels;
  least = of_network n split is (λ links nodes. AreLevels links old (2 * nodes) (2 * nodes + 1) levels) are;
  blocked = of_network n split is (λ links nodes. IsBlocked links levels (2 * nodes) (2 * nodes + 1) new amount now)
      (subst (λ l. IsBlocked split.links l (2 * split.nodes) (2 * split.nodes + 1) new amount now) same blocked);
}

-- where the links lead that are to be sorted, and what comes of it
pub split_within : (n : Network) (split : Split) → InRange n → IsSplit n split
    → (2 * split.nodes + 2 < 2 ^ 64) × ((k : ℕ) → k < length split.links → (link_at split.links k).from < 2 * split.nodes + 2)
split_within n split range is =
    let nodes = is.nodes_ in let small = is.small in
    (omega arith, from_within n range (2 * split.nodes + 2) (omega arith) split.links is.links_)

pub sorted_is_laid : (n : Network) (split : Split) (layout : Layout) → InRange n → Meets n (λ v. IsSome (weight_at n v)) → total_weight n < 2 ^ 63 → IsSplit n split
    → IsSorted split layout → IsLaidOut n layout
sorted_is_laid n split layout range bounded total is sorted = record {
  split_ = record {
    in_range = range;
    nodes_ = sorted.nodes_ ∙ is.nodes_;
    small = let same = sorted.nodes_ in let small = is.small in omega arith;
    links_ = sorted.links_ ∙ is.links_;
    rows_ = subst (λ links. AreRows links layout.split.rows) (sym sorted.links_) sorted.rows_;
    parts = sorted.parts ∙ ap (λ nodes. 2 * nodes + 2) is.nodes_;
  };
  bounded = bounded;
  total = total;
  flow = subst (λ capacities. IsFlow n capacities 0) (sym sorted.capacities_) is.flow;
}

abbrev pub network_laid : Layout → Network
network_laid layout = network_of layout.split.nodes layout.split.links layout.capacities

pub laid_out_again : (n : Network) (layout : Layout) → IsLaidOut n layout → IsLaidOut (network_laid layout) layout
laid_out_again n layout laid = subst (λ m. IsLaidOut m layout) (is_rebuilt n layout.split layout.capacities 0 laid) laid

-- what is told of the network that was laid out where it is told of the rebuilt one
pub told_again : {A E : Type 0} (P : Network → A → Type 0) (n : Network) (layout : Layout) (result : Result A E) → IsLaidOut n layout → IfOk result (P (network_laid layout)) → IfOk result (P n)
told_again P n layout result laid told = subst (λ m. IfOk result (P m)) (sym (is_rebuilt n layout.split layout.capacities 0 laid)) told
