-- Capacities of links that carry given amounts, and the flow that these are if they balance.
use Rattle.std.proofs.Common.{◌≡◌, ℕ, ◌+◌, ◌*◌, ◌-◌, ◌^◌, ◌<◌, ◌≤◌, Bool, List, length, slice_index, ap, sym, ◌∙◌, arith, inl, inr}
use Rattle.std.proofs.lemmas.Bool.{cases_lt}
use Rattle.std.proofs.lemmas.List.{get_or_past}
use Rattle.bl_base.specs.Sums.{sum_below}
use Rattle.bl_base.proofs.Sums.{sum_same}
use Rattle.bl_flow.specs.declared.network.Network.{Network}
use Rattle.bl_flow.specs.declared.split.Link.{Link}
use Rattle.bl_flow.specs.declared.split_network.SplitNetwork.{SplitNetwork}
use Rattle.bl_flow.specs.Split.{links_of, both_ways, link_at}
use Rattle.bl_flow.specs.SplitNetworks.{IsSplitNetwork}
use Rattle.bl_flow.specs.Flows.{link_count, carried_by, amount_if, IsFlow, Carries}
use Rattle.bl_flow.specs.Capacities.{both_capacities, AreCarried, AreCarrying, AreLeft}
use Rattle.bl_flow.proofs.HalfCapacities.{halves_count, capacity_is, through_is, behind_is, back_is}
use Rattle.bl_flow.proofs.ReverseLinks.{forward_at}
use Rattle.bl_flow.proofs.SplitNetworks.{of_network}

-- none carries more than the bound
pub all_carried : (nodes most : ℕ) (now : List ℕ) → nodes ≤ length now → ((k : ℕ) → k < length now → slice_index now k ≤ most) → most ≤ 2 ^ 63 → AreCarried nodes now
all_carried nodes most now all limit small = record {
  all = all;
  fit = λ k behind.
      elim (cases_lt k (length now)) as (λ _. slice_index now k ≤ 2 ^ 63) [
        | inl lt ↦ let le = limit k lt in omega arith
        | inr past ↦ let none = get_or_past now k 0 past in omega arith
      ];
}

-- what the back of a link can take is what the link carries
back_of : (through carried : List ℕ) (k : ℕ) → k < length carried → slice_index (both_capacities through carried) (k + length carried) ≡ slice_index carried k
back_of through carried k lt =
    let same : k + length carried - length carried ≡ k = omega arith in
    capacity_is through carried (k + length carried) (omega arith) ∙ back_is through carried (k + length carried) (omega arith) ∙ ap (slice_index carried) same

pub carrying : (through carried through_now now : List ℕ) (most : ℕ) → AreCarried (length through) carried → length now ≡ length carried → AreLeft through carried now through_now
    → ((k : ℕ) → k < length now → slice_index now k ≤ most) → most ≤ 2 ^ 63 → AreCarrying (both_capacities through carried) (both_capacities through_now now) now most
carrying through carried through_now now most are count left limit small = record {
  places = let old = halves_count through carried in let new = halves_count through_now now in omega arith;
  halves = let old = halves_count through carried in omega arith;
  sums = λ k lt.
      let back_now = back_of through_now now k lt in
      let swap : k + length now ≡ k + length carried = omega arith in
      let back_old = ap (slice_index (both_capacities through carried)) swap ∙ back_of through carried k (omega arith) in
      let same = left.places in
      elim (cases_lt k (length through)) as (λ _. slice_index (both_capacities through_now now) k + slice_index (both_capacities through_now now) (k + length now)
      ≡ slice_index (both_capacities through carried) k + slice_index (both_capacities through carried) (k + length now)) [
        | inl inside ↦
            let forth_now = capacity_is through_now now k (omega arith) ∙ through_is through_now now k lt (omega arith) in
            let forth_old = capacity_is through carried k (omega arith) ∙ through_is through carried k (omega arith) inside in
            let each = left.each k inside in omega arith
        | inr behind ↦
            let forth_now = capacity_is through_now now k (omega arith) ∙ behind_is through_now now k lt (omega arith) in
            let forth_old = capacity_is through carried k (omega arith) ∙ behind_is through carried k (omega arith) behind in
            let fit = are.fit k behind in let fit_now = limit k lt in omega arith
      ];
  carries = λ k lt. back_of through_now now k lt;
  limit = limit;
}

-- the links through the network's split network carry a flow
pub flow_adopted : (n : Network) (split : SplitNetwork) (old after carried : List ℕ) (amount total : ℕ) → IsSplitNetwork n split → IsFlow n old amount → AreCarrying old after carried total
    → Carries split.links (length carried) (slice_index carried) (2 * split.nodes) (2 * split.nodes + 1) total → IsFlow n after total
flow_adopted n split old after carried amount total is flow are balanced = record {
  places = are.places ∙ flow.places;
  fits = λ k lt.
      let now = back_at after k in let before = back_at old k in
      let sums = are.sums k (let e = count in omega arith) in let fits = flow.fits k lt in omega arith;
  most = λ k lt. let now = back_at after k in let inside : k < length carried = (let e = count in omega arith) in let carries = are.carries k inside in let limit = are.limit k inside in omega arith;
  carries = λ set.
      let whole = of_network n split is (λ links nodes. Carries links (length carried) (slice_index carried) (2 * nodes) (2 * nodes + 1) total) balanced set in
      let leaving = of_all (λ l. l.from) set in
      let entering = of_all (λ l. l.to) set in
      omega arith;
}
  where
    count : length carried ≡ link_count n
    count = let halves = are.halves in let places = flow.places in omega arith

    back_at : (capacities : List ℕ) (k : ℕ) → carried_by n capacities k ≡ slice_index capacities (k + length carried)
    back_at capacities k = let e : k + link_count n ≡ k + length carried = (let c = count in omega arith) in ap (slice_index capacities) e

    of_all : (end : Link → ℕ) (set : ℕ → Bool) → sum_below (link_count n) (λ k. amount_if (set (end (link_at (links_of n) k))) (carried_by n after k))
        ≡ sum_below (length carried) (λ k. amount_if (set (end (link_at (both_ways (links_of n)) k))) (slice_index carried k))
    of_all end set =
        sum_same (link_count n) (λ k. amount_if (set (end (link_at (links_of n) k))) (carried_by n after k)) (λ k. amount_if (set (end (link_at (both_ways (links_of n)) k))) (slice_index carried k))
        (λ k lt. ap (λ x. amount_if (set (end (link_at (links_of n) k))) x) (back_at after k ∙ are.carries k (let c = count in omega arith))
        ∙ ap (λ l. amount_if (set (end l)) (slice_index carried k)) (sym (forward_at (links_of n) k lt)))
        ∙ ap (λ m. sum_below m (λ k. amount_if (set (end (link_at (both_ways (links_of n)) k))) (slice_index carried k))) (sym count)
