-- Amounts more flow, and no more than the weights allow.
use Rattle.std.proofs.Common.{◌≡◌, ℕ, ◌+◌, ◌*◌, ◌^◌, ◌<◌, ◌≤◌, Bool, true, false, List, length, Option, Some, None, is_some, unwrap_or, refl, sym, ap, ◌∙◌, arith, inl, inr, slice_index}
use Rattle.std.specs.Prelude.{IsSome}
use Rattle.bl_flow.specs.declared.network.Network.{Network}
use Rattle.bl_flow.specs.declared.split_network.SplitNetwork.{SplitNetwork}
use Rattle.bl_flow.specs.Networks.{size, weight_at, InRange, total_weight}
use Rattle.bl_flow.specs.Cuts.{IsCut, Meets, cut_weight}
use Rattle.bl_flow.specs.Split.{in_part, out_part, links_of, both_ways, link_at, full_capacity}
use Rattle.bl_flow.specs.Flows.{link_count, carried_by, IsFlow, IsPushed, HasCapacities, amount_if}
use Rattle.bl_flow.specs.Searches.{IsTrail}
use Rattle.bl_flow.specs.SplitNetworks.{IsSplitNetwork}
use Rattle.bl_base.proofs.Sums.{sum_same, sum_none, sum_term}
use Rattle.bl_flow.proofs.Amounts.{carries_more}
use Rattle.bl_flow.proofs.Duality.{worth_at_most, share}
use Rattle.bl_flow.proofs.Links.{count_of, unbounded_behind, full_capacity_of}
use Rattle.std.proofs.lemmas.Option.{slice_get_past}
use Rattle.bl_flow.proofs.ReverseLinks.{both_count}
use Rattle.bl_flow.proofs.SplitNetworks.{of_network}
use Rattle.std.proofs.lemmas.Bool.{cases_lt}

-- nothing flows at first
nothing_if : (b : Bool) → amount_if b 0 ≡ 0
nothing_if true = refl
nothing_if false = refl

pub flow_begins : (n : Network) (capacities : List ℕ) (links : ℕ) → links ≡ link_count n → HasCapacities n links capacities → IsFlow n capacities 0
flow_begins n capacities links e has = record {
  places = has.places ∙ ap (λ m. m + m) e;
  fits = λ k lt.
      let all = has.all k (omega arith) in
      let none : carried_by n capacities k ≡ 0 = nothing k lt in
      omega arith;
  most = λ k lt. let none = nothing k lt in omega arith;
  carries = λ set.
      let out_ = sum_none (link_count n) (λ k. amount_if (set (link_at (links_of n) k).from) (carried_by n capacities k)) (λ k lt. ap (amount_if (set (link_at (links_of n) k).from)) (nothing k lt) ∙ nothing_if (set (link_at (links_of n) k).from)) in
      let in_ = sum_none (link_count n) (λ k. amount_if (set (link_at (links_of n) k).to) (carried_by n capacities k)) (λ k lt. ap (amount_if (set (link_at (links_of n) k).to)) (nothing k lt) ∙ nothing_if (set (link_at (links_of n) k).to)) in
      let a = nothing_if (set (in_part (size n))) in
      let b = nothing_if (set (out_part (size n))) in
      omega arith;
}
  where
    nothing : (k : ℕ) → k < link_count n → carried_by n capacities k ≡ 0
    nothing k lt = ap (λ m. slice_index capacities (k + m)) (sym e) ∙ has.none k (omega arith)

-- an amount more
pub flow_more : (n : Network) (capacities after : List ℕ) (a d : ℕ) (trail : List ℕ) → IsFlow n capacities a → IsPushed capacities after trail d
    → (capacity : ℕ) → IsTrail (both_ways (links_of n)) capacities (in_part (size n)) (out_part (size n)) trail capacity → IsFlow n after (a + d)
flow_more n capacities after a d trail flow pushed capacity on = record {
  places = pushed.places ∙ flow.places;
  fits = λ k lt. pushed.sums (link_count n) k (sym flow.places) lt ∙ flow.fits k lt;
  most = λ k lt. let more = pushed.most (k + link_count n) in let most = flow.most k lt in omega arith;
  carries = carries_more (links_of n) (link_count n) (carried_by n capacities) (carried_by n after) (in_part (size n)) (out_part (size n)) a d flow.carries
      (pushed.adds (links_of n) (in_part (size n)) (out_part (size n)) (sym flow.places) on.back);
}

-- the nodes with weights are a cut
abbrev has_weight : Network → ℕ → Bool
has_weight n v = is_some (weight_at n v)

weight_if : (o : Option ℕ) → amount_if (is_some o) (unwrap_or o 0) ≡ unwrap_or o 0
weight_if None = refl
weight_if (Some w) = refl

pub at_most_total : (n : Network) (capacities : List ℕ) (a : ℕ) → IsFlow n capacities a → InRange n → Meets n (λ v. IsSome (weight_at n v)) → a ≤ total_weight n
at_most_total n capacities a flow range bounded =
    let is : IsCut n (has_weight n) = record { weighted = λ v h. h; meets = bounded } in
    let bound = worth_at_most n capacities a flow range (has_weight n) is in
    let same : cut_weight n (has_weight n) ≡ total_weight n = sum_same (size n) (share n (has_weight n)) (λ v. unwrap_or (weight_at n v) 0) (λ v lt. weight_if (weight_at n v)) in
    omega arith

weight_fits : (o : Option ℕ) → unwrap_or o 0 < 2 ^ 63 → unwrap_or o (2 ^ 63) ≤ 2 ^ 63
weight_fits None lt = omega arith
weight_fits (Some w) lt = omega arith

-- no link takes more than a machine number
pub full_capacity_fits : (n : Network) (k : ℕ) → total_weight n < 2 ^ 63 → full_capacity n k < 2 ^ 64
full_capacity_fits n k total =
    elim (cases_lt k (size n)) as (λ _. full_capacity n k < 2 ^ 64) [
      | inl inside ↦
          let term = sum_term (size n) (λ v. unwrap_or (weight_at n v) 0) k inside in
          let fits = weight_fits (weight_at n k) (omega arith) in
          omega arith
      | inr behind ↦ let e = unbounded_behind n k behind in omega arith
    ]

-- what a push along a trail needs
pub halves_fit : (n : Network) (capacities : List ℕ) (a : ℕ) → IsFlow n capacities a → total_weight n < 2 ^ 63
    → (half : ℕ) × (half + half ≡ length capacities) × ((k : ℕ) → k < half → slice_index capacities k + slice_index capacities (k + half) < 2 ^ 64)
halves_fit n capacities a flow total =
    (link_count n, sym flow.places, λ k lt. let e = flow.fits k lt in let fits = full_capacity_fits n k total in omega arith)

-- the residual capacities of a flow are as many as the links both ways
pub capacities_of : (n : Network) (capacities : List ℕ) (a : ℕ) → IsFlow n capacities a → length capacities ≡ length (both_ways (links_of n))
capacities_of n capacities a flow = flow.places ∙ sym (both_count (links_of n))

-- the same, where the links and parts are named by their values
pub flow_after : (n : Network) (split : SplitNetwork) (capacities after : List ℕ) (a : ℕ) (trail : List ℕ) (capacity : ℕ) → IsSplitNetwork n split
    → IsFlow n capacities a → IsTrail split.links capacities (2 * split.nodes) (2 * split.nodes + 1) trail capacity → IsPushed capacities after trail capacity → IsFlow n after (a + capacity)
flow_after n split capacities after a trail capacity is flow on pushed =
    flow_more n capacities after a capacity trail flow pushed capacity (of_network n split is (λ links nodes. IsTrail links capacities (2 * nodes) (2 * nodes + 1) trail capacity) on)

-- what a node with a weight carries is at most its weight
pub load_fits : (n : Network) (capacities : List ℕ) (a v w load : ℕ) → IsFlow n capacities a → weight_at n v ≡ Some w → (v < size n → load ≤ carried_by n capacities v) → load ≤ w
load_fits n capacities a v w load flow e le =
    elim (cases_lt v (size n)) as (λ _. load ≤ w) [
      | inl inside ↦
          let count = count_of n in
          let fits = flow.fits v (omega arith) in
          let same = full_capacity_of n v w e in
          let less = le inside in
          omega arith
      | inr past ↦
          let none : weight_at n v ≡ None = ap (λ o. unwrap_or o None) (slice_get_past n.weights v past) in
          absurd (none_some w (sym none ∙ e))
    ]
  where
    none_some : (x : ℕ) → None ≡ Some x → ⊥
    none_some x h = cc
