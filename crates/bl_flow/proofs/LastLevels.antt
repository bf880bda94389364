-- The last levels after the last phase, and the rows of links to parts.
use Rattle.std.proofs.Common.{◌≡◌, ℕ, ◌+◌, ◌-◌, ◌*◌, ◌/◌, ◌<◌, ◌≤◌, List, [], length, Option, None, map, take, ◌++◌, refl, sym, ap, subst, ◌∙◌, arith, inl, inr, slice_index}
use Rattle.std.specs.List.{Contains}
use Rattle.std.proofs.lemmas.Bool.{cases_lt, lt-ltb, le-ltb}
use Rattle.std.proofs.lemmas.List.{get_or-map, length-map, get_or_past}
use Rattle.std.proofs.Math.Seq.{take-append_seam}
use Rattle.bl_flow.specs.declared.split.Link.{Link}
use Rattle.bl_flow.specs.declared.network.Network.{Network}
use Rattle.bl_flow.specs.declared.split_network.SplitNetwork.{SplitNetwork}
use Rattle.bl_flow.specs.Flows.{IsFlow, AreReverse}
use Rattle.bl_flow.specs.FullFlows.{IsFull}
use Rattle.bl_flow.specs.Split.{link_at, both_ways, links_of}
use Rattle.bl_flow.specs.SplitNetworks.{IsSplitNetwork, IsLinked}
use Rattle.bl_flow.specs.Searches.{AreRows, part_row}
use Rattle.bl_flow.specs.AdjacencyLists.{reverse_place, reversed}
use Rattle.bl_flow.specs.Levels.{level_at, AreLevels, AreLevelsToEnd, AreRowsIn}
use Rattle.bl_flow.proofs.ReverseLinks.{both_count}
use Rattle.bl_flow.proofs.Links.{contains_map}
use Rattle.bl_flow.proofs.LinksWithin.{from_within, to_within}
use Rattle.bl_flow.proofs.SplitNetworks.{of_network}
use Rattle.bl_flow.proofs.Phases.{reverse_ends}
use Rattle.bl_flow.proofs.LevelSearch.{whole_levels}

-- a list that was lent comes back
pub given_back : {X : Type 0} (new rest : List X) (n : ℕ) → n ≡ length new → take n (new ++ rest) ≡ new
given_back new rest n e = ap (λ k. take k (new ++ rest)) e ∙ take-append_seam new rest

pub reverse_low : (half k : ℕ) → k < half → reverse_place half k ≡ k + half
reverse_low half k lt = rw (lt-ltb k half lt) refl

pub reverse_high : (half k : ℕ) → half ≤ k → reverse_place half k ≡ k - half
reverse_high half k le = rw (le-ltb k half le) refl

-- a link and its reverse
pub reverse_pair : (half k : ℕ) → k < half + half → AreReverse half k (reverse_place half k)
reverse_pair half k lt =
    elim (cases_lt k half) as (λ _. AreReverse half k (reverse_place half k)) [
      | inl low ↦ inl (low, reverse_low half k low)
      | inr high ↦ let e = reverse_high half k high in inr (omega arith, omega arith)
    ]

reverse_twice : (half k : ℕ) → k < half + half → reverse_place half (reverse_place half k) ≡ k
reverse_twice half k lt =
    elim (cases_lt k half) as (λ _. reverse_place half (reverse_place half k) ≡ k) [
      | inl low ↦ let a = reverse_low half k low in let b = reverse_high half (k + half) (omega arith) in ap (reverse_place half) a ∙ b ∙ omega arith
      | inr high ↦ let a = reverse_high half k high in let b = reverse_low half (k - half) (omega arith) in ap (reverse_place half) a ∙ b ∙ omega arith
    ]

pub reversed_row : (half : ℕ) (rows : List (List ℕ)) (part : ℕ) → part_row (reversed half rows) part ≡ map (reverse_place half) (part_row rows part)
reversed_row half rows part =
    elim (cases_lt part (length rows)) as (λ _. part_row (reversed half rows) part ≡ map (reverse_place half) (part_row rows part)) [
      | inl inside ↦ get_or-map (map (reverse_place half)) rows part [] [] inside
      | inr past ↦
          let count = length-map rows (map (reverse_place half)) in
          let a : part_row (reversed half rows) part ≡ [] = get_or_past (reversed half rows) part [] (omega arith) in
          let b : part_row rows part ≡ [] = get_or_past rows part [] past in
          a ∙ ap (map (reverse_place half)) (sym b)
    ]

-- the reverse links of those from a part are those to it
pub rows_reversed : (half : List Link) (links : List Link) (rows : List (List ℕ)) → links ≡ both_ways half → AreRows links rows → AreRowsIn links (reversed (length half) rows)
rows_reversed half links rows both hold = record {
  sound = λ part place lt.
      let row = reversed_row (length half) rows part in
      let count = length-map (part_row rows part) (reverse_place (length half)) in
      let size = ap length row in
      let inside : place < length (part_row rows part) = omega arith in
      let is : slice_index (part_row (reversed (length half) rows) part) place ≡ reverse_place (length half) (slice_index (part_row rows part) place) =
      ap (λ r. slice_index r place) row ∙ get_or-map (reverse_place (length half)) (part_row rows part) place 0 0 inside in
      let old = hold.sound part place inside in
      let there = below (slice_index (part_row rows part) place) old.0 in
      subst (λ k. (k < length links) × ((link_at links k).to ≡ part)) (sym is) (there.0, there.2 ∙ old.1);
  full = λ k lt.
      let there = below k lt in
      let old : Contains (part_row rows (link_at links k).to) (reverse_place (length half) k) =
      subst (λ p. Contains (part_row rows p) (reverse_place (length half) k)) there.1 (hold.full (reverse_place (length half) k) there.0) in
      subst (λ r. Contains r k) (sym (reversed_row (length half) rows (link_at links k).to))
      (subst (λ j. Contains (map (reverse_place (length half)) (part_row rows (link_at links k).to)) j) (reverse_twice (length half) k (let c = count_ in omega arith))
      (contains_map (reverse_place (length half)) (part_row rows (link_at links k).to) (reverse_place (length half) k) old));
}
  where
    count_ : length links ≡ length half + length half
    count_ = ap length both ∙ both_count half

    below : (k : ℕ) → k < length links
        → (reverse_place (length half) k < length links) × ((link_at links (reverse_place (length half) k)).from ≡ (link_at links k).to) × ((link_at links (reverse_place (length half) k)).to ≡ (link_at links k).from)
    below k lt =
        let c = count_ in
        let pair = reverse_pair (length half) k (omega arith) in
        let inside : reverse_place (length half) k < length links =
        elim pair as (λ _. reverse_place (length half) k < length links) [ inl low ↦ let a = low.0 in let b = low.1 in omega arith | inr high ↦ let a = high.0 in omega arith ] in
        let ends = subst (λ l. ((link_at l (reverse_place (length half) k)).from ≡ (link_at l k).to) × ((link_at l (reverse_place (length half) k)).to ≡ (link_at l k).from)) (sym both)
        (reverse_ends half k (reverse_place (length half) k) pair) in
        (inside, ends.0, ends.1)

-- the last levels, by which no walk comes to an end
pub full_at : (n : Network) (split : SplitNetwork) (capacities : List ℕ) (levels : List (Option ℕ)) (amount : ℕ) → IsSplitNetwork n split → IsFlow n capacities amount
    → AreLevelsToEnd split.links capacities (2 * split.nodes) (2 * split.nodes + 1) levels → level_at levels (2 * split.nodes + 1) ≡ None → IsFull n capacities levels amount
full_at n split capacities levels amount is flow are none = record {
  flow = flow;
  levels_ = of_network n split is (λ links nodes. AreLevels links capacities (2 * nodes) (2 * nodes + 1) levels) (whole_levels split.links capacities (2 * split.nodes) (2 * split.nodes + 1) levels are none);
  last = subst (λ nodes. level_at levels (2 * nodes + 1) ≡ None) is.nodes_ none;
}

pub half_count : (n : Network) (links : List Link) → links ≡ both_ways (links_of n) → length links / 2 ≡ length (links_of n)
half_count n links both = let count : length links ≡ length (links_of n) + length (links_of n) = ap length both ∙ both_count (links_of n) in omega arith

-- the links of a split network lead from part to part
pub linked : (n : Network) (split : SplitNetwork) → IsSplitNetwork n split → IsLinked split
linked n split is = record {
  small = is.small;
  parts = let nodes = is.nodes_ in let parts = is.parts in omega arith;
  rows_out = is.rows_;
  rows_in_ = subst (λ half. AreRowsIn split.links (reversed half split.rows)) (sym (half_count n split.links is.links_)) (rows_reversed (links_of n) split.links split.rows is.links_ is.rows_);
  froms = from_within n is.in_range (length split.rows) is.parts split.links is.links_;
  tos = to_within n is.in_range (length split.rows) is.parts split.links is.links_;
}
