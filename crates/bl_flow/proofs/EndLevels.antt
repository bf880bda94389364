-- The level of the part behind all ends, and the levels of the ends' out places.
use Rattle.std.proofs.Common.{◌≡◌, ◌↔◌, ℕ, suc, ◌+◌, ◌-◌, ◌^◌, ◌<◌, ◌≤◌, List, Option, Some, None, refl, sym, ap, subst, ◌∙◌, arith, inl, inr}
use Rattle.std.specs.List.{Contains}
use Rattle.std.proofs.lemmas.List.Elements.{All-contains}
use Rattle.bl_flow.specs.declared.network.Network.{Network}
use Rattle.bl_flow.specs.declared.split.Link.{Link}
use Rattle.bl_flow.specs.declared.split_network.SplitNetwork.{SplitNetwork}
use Rattle.bl_flow.specs.Networks.{size, InRange}
use Rattle.bl_flow.specs.Split.{in_part, out_part, end_link, links_of, both_ways, link_at, reverse_link}
use Rattle.bl_flow.specs.Flows.{IsFlow}
use Rattle.bl_flow.specs.Levels.{IsReached, here, onward, level_at, AreLevels, HasRisen}
use Rattle.bl_flow.specs.PackedNetworks.{IsPacked, IsAdvanced}
use Rattle.bl_flow.specs.Residuals.{Loaded, loaded_by, arc_at, ResidualWalk, AreLevelsOf, ReachesAnEnd, EndsHaveRisen, IsLawful, amount_of}
use Rattle.bl_flow.proofs.FlowBounds.{at_most_total}
use Rattle.bl_flow.proofs.ResidualFlows.{lawful, amount_is}
use Rattle.bl_flow.proofs.Links.{unbounded_behind, end_place}
use Rattle.bl_flow.proofs.NetworkOfLinks.{network_of, is_rebuilt}
use Rattle.bl_flow.proofs.ReverseLinks.{forward_at, reverse_at, place_cases}
use Rattle.bl_flow.proofs.Residuals.{to_start, from_end, KindAt, is_node, is_arc, is_behind, kind_at, arc_ends, walk_out, walk_in, by_link, always_capacity}

-- a walk to the part behind all ends comes from the out place of an end
pub record FromEnd (n : Network) (capacities : List ℕ) (steps : ℕ) : Type 0 where
  pub end : ℕ
  pub before : ℕ
  pub is_end : Contains n.ends end
  pub one : steps ≡ suc before
  pub reached : IsReached (both_ways (links_of n)) capacities (in_part (size n)) (out_part (size n)) before (out_part end)

module _ (n : Network) (range : InRange n) (capacities : List ℕ) (amount : ℕ) (flow : IsFlow n capacities amount) (small : amount < 2 ^ 63) where
  abbrev root : ℕ
  root = in_part (size n)

  abbrev last : ℕ
  last = out_part (size n)

  abbrev links : List Link
  links = both_ways (links_of n)

  end_lt : (e : ℕ) → Contains n.ends e → e < size n
  end_lt e is = All-contains (λ w. w < size n) n.ends e range.ends is

  by_forward : (steps k : ℕ) (link : Link) → KindAt n k link → link.to ≡ last → IsReached links capacities root last steps link.from → FromEnd n capacities (suc steps)
  by_forward steps k link (is_node lt e) to trail = let f : out_part k ≡ last = sym (ap (λ l. l.to) e) ∙ to in absurd (omega arith)
  by_forward steps k link (is_arc a lt place e) to trail = let f : in_part (arc_at n a).to ≡ last = sym (ap (λ l. l.to) e) ∙ to in absurd (omega arith)
  by_forward steps k link (is_behind high (to_start s start e)) to trail = let f : in_part s ≡ last = sym (ap (λ l. l.to) e) ∙ to in absurd (omega arith)
  by_forward steps k link (is_behind high (from_end s is e)) to trail = record { end = s; before = steps; is_end = is; one = refl; reached = subst (IsReached links capacities root last steps) (ap (λ l. l.from) e) trail }

  not_back : (k : ℕ) (link : Link) → KindAt n k link → link.from ≡ last → ⊥
  not_back k link (is_node lt e) from = let f : in_part k ≡ last = sym (ap (λ l. l.from) e) ∙ from in omega arith
  not_back k link (is_arc a lt place e) from = let f : out_part (arc_at n a).from ≡ last = sym (ap (λ l. l.from) e) ∙ from in let low = (arc_ends n range capacities amount flow small a lt).0 in omega arith
  not_back k link (is_behind high (to_start s start e)) from = let f : in_part (size n) ≡ last = sym (ap (λ l. l.from) e) ∙ from in omega arith
  not_back k link (is_behind high (from_end s is e)) from = let f : out_part s ≡ last = sym (ap (λ l. l.from) e) ∙ from in let low = end_lt s is in omega arith

  by_last : (steps part : ℕ) → IsReached links capacities root last steps part → part ≡ last → FromEnd n capacities steps
  by_last _ _ here e = absurd (omega arith)
  by_last _ _ (onward steps part k lt capacity trail goes to) e =
      elim (place_cases (links_of n) k lt) as (λ _. FromEnd n capacities (suc steps)) [
        | inl low ↦
            let same = forward_at (links_of n) k low in
            by_forward steps k (link_at (links_of n) k) (kind_at n k low) (ap (λ l. l.to) (sym same) ∙ to ∙ e) (subst (λ l. IsReached links capacities root last steps l.from) same trail)
        | inr high ↦
            let same : link_at links k ≡ reverse_link (link_at (links_of n) high.0) = ap (link_at links) high.2 ∙ reverse_at (links_of n) high.0 high.1 in
            absurd (not_back high.0 (link_at (links_of n) high.0) (kind_at n high.0 high.1) (ap (λ l. l.to) (sym same) ∙ to ∙ e))
      ]

  to_last : (steps e : ℕ) → Contains n.ends e → ResidualWalk (loaded_by n capacities) steps (out_part e) → IsReached links capacities root last (suc (suc steps)) last
  to_last steps e is walk =
      let place = end_place n e is in
      let lt = end_lt e is in
      by_link n range capacities amount flow small (suc steps) (out_part e) last place.0 (end_link (size n) e) place.1 place.3
      (always_capacity n range capacities amount flow small place.0 place.1 (unbounded_behind n place.0 place.2)) refl refl (λ q. omega arith) (walk_in n range capacities amount flow small steps (out_part e) walk)

  module _ (levels all : List (Option ℕ)) (public_ : AreLevelsOf (loaded_by n capacities) levels) (are : AreLevels links capacities root last all) where
    -- the least level that an end's out place has is two less
    pub last_out : (d : ℕ) → level_at all last ≡ Some d → (e c : ℕ) × Contains n.ends e × (level_at levels (out_part e) ≡ Some c) × (c + 2 ≤ d)
    last_out d is =
        let from = by_last d last (are.sound last d is) refl in
        let low = end_lt from.end from.is_end in
        let s = walk_out n range capacities amount flow small from.before (out_part from.end) from.reached (omega arith) in
        let c = public_.least (out_part from.end) s.count s.walk in
        let a = s.less in let b = c.2 in let one = from.one in
        (from.end, c.0, from.is_end, c.1, omega arith)

    pub last_in : ReachesAnEnd n levels → (d : ℕ) × (level_at all last ≡ Some d)
    last_in reaches =
        let top = are.least last (suc (suc reaches.1)) (to_last reaches.1 reaches.0 reaches.2 (public_.sound (out_part reaches.0) reaches.1 reaches.3)) in
        (top.0, top.1)

pub ends_risen : (n : Network) (range : InRange n) (old new : List ℕ) (before after : ℕ) (flow : IsFlow n old before) (small : before < 2 ^ 63) → IsFlow n new after → after < 2 ^ 63
    → (levels all : List (Option ℕ)) → AreLevelsOf (loaded_by n old) levels → AreLevels (both_ways (links_of n)) old (in_part (size n)) (out_part (size n)) all
    → HasRisen (both_ways (links_of n)) new (in_part (size n)) all (out_part (size n)) → EndsHaveRisen (loaded_by n new) levels
ends_risen n range old new before after flow small flow_now small_now levels all public_ are risen e steps is walk least other is_other level lowest =
    let top = last_in n range old before flow small levels all public_ are (other, least, is_other, level) in
    let out = last_out n range old before flow small levels all public_ are top.0 top.1 in
    let low = lowest out.0 out.1 out.2 out.3 in
    let up = risen top.0 (suc (suc steps)) top.1 (to_last n range new after flow_now small_now steps e is walk) in
    let gap = out.4 in
    omega arith

pub packed_small : (n : Network) (split : SplitNetwork) (capacities : List ℕ) (amount : ℕ) → IsPacked n split capacities amount → amount < 2 ^ 63
packed_small n split capacities amount is = let most = at_most_total n capacities amount is.flow is.split_.in_range is.bounded in let total = is.total in omega arith

pub packed_lawful : (r : Loaded) (n : Network) (split : SplitNetwork) (capacities : List ℕ) (amount : ℕ) → loaded_by n capacities ≡ r
    → IsPacked n split capacities amount → IsLawful r × (amount_of r ≡ amount)
packed_lawful r n split capacities amount view is =
    let small = packed_small n split capacities amount is in
    subst (λ x. IsLawful x × (amount_of x ≡ amount)) view (lawful n is.split_.in_range capacities amount is.flow small, amount_is n is.split_.in_range capacities amount is.flow small)

-- what an advance of a residual network comes to
pub record Advance (r : Loaded) (n : Network) (split : SplitNetwork) (capacities : List ℕ) (before after : ℕ) (levels : List (Option ℕ)) : Type 0 where
  pub packed : IsPacked n split capacities after
  pub lawful_ : IsLawful (loaded_by n capacities)
  pub amount_ : amount_of (loaded_by n capacities) ≡ amount_of r + (after - before)
  pub some : (0 < after - before) ↔ ReachesAnEnd r.network levels
  pub risen : EndsHaveRisen (loaded_by n capacities) levels

module _ (n : Network) (split : SplitNetwork) (old new : List ℕ) (before after : ℕ) (levels : List (Option ℕ))
    (is : IsPacked n split old before) (more : IsAdvanced n old new before after) (public_ : AreLevelsOf (loaded_by n old) levels) where
  small_before : before < 2 ^ 63
  small_before = packed_small n split old before is

  packed_after : IsPacked n split new after
  packed_after = record { split_ = is.split_; bounded = is.bounded; total = is.total; flow = more.flow }

  by_level : (o : Option ℕ) → level_at more.levels_ (out_part (size n)) ≡ o → (before ≤ after) × (0 < after - before → ReachesAnEnd n levels)
  by_level None e = let same = more.blocked.none e in (omega arith, λ lt. absurd (omega arith))
  by_level (Some d) e =
      let up = more.blocked.some d e in
      let out = last_out n is.split_.in_range old before is.flow small_before levels more.levels_ public_ more.least d e in
      (omega arith, λ _. (out.0, out.1, out.2, out.3))

  advance_plain : Advance (loaded_by n old) n split new before after levels
  advance_plain =
      let known = by_level (level_at more.levels_ (out_part (size n))) refl in
      let up = known.0 in
      let was = packed_lawful (loaded_by n old) n split old before refl is in
      let now = packed_lawful (loaded_by n new) n split new after refl packed_after in
      let was_amount = was.1 in let now_amount = now.1 in
      record {
        packed = packed_after;
        lawful_ = now.0;
        amount_ = omega arith;
        some = (
          known.1,
          λ reaches.
              let top = last_in n is.split_.in_range old before is.flow small_before levels more.levels_ public_ more.least reaches in
              let lt = more.blocked.some top.0 top.1 in omega arith,
        );
        risen = ends_risen n is.split_.in_range old new before after is.flow small_before more.flow (packed_small n split new after packed_after) levels more.levels_ public_ more.least more.blocked.risen_;
      }

pub advance_is : (r : Loaded) (n : Network) (split : SplitNetwork) (old new : List ℕ) (before after : ℕ) (levels : List (Option ℕ))
    → loaded_by n old ≡ r → IsPacked n split old before → IsAdvanced (network_of split.nodes split.links old) old new before after → AreLevelsOf r levels → Advance r n split new before after levels
advance_is r n split old new before after levels view is more public_ =
    subst (λ x. Advance x n split new before after levels) view
    (advance_plain n split old new before after levels is (subst (λ m. IsAdvanced m old new before after) (sym (is_rebuilt n split old before is)) more) (subst (λ x. AreLevelsOf x levels) (sym view) public_))
