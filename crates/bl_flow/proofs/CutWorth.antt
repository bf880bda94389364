-- Where no link with residual capacity leads on from the parts that are marked, they are the near side of a cut of the flow's worth.
use Rattle.std.proofs.Common.{◌≡◌, ℕ, suc, ◌+◌, ◌^◌, ◌<◌, ◌≤◌, Bool, true, false, List, [], ◌∷◌, ◌++◌, length, Option, Some, None, unwrap_or, refl, sym, ap, subst, ◌∙◌, arith, inl, inr, not, ◌&&◌, slice_index}
use Rattle.std.specs.Prelude.{IsTrue, IsSome}
use Rattle.std.specs.List.{All, Any, Contains}
use Rattle.std.proofs.lemmas.Bool.{cases_Bool, cases_lt, false≢true, and_parts, and_from, not_from_false, not_from_true}
use Rattle.std.proofs.lemmas.List.Elements.{All-contains, All-head, All-tail}
use Rattle.std.proofs.lemmas.Option.{slice_get_past}
use Rattle.bl_flow.specs.declared.network.Arc.{Arc}
use Rattle.bl_flow.specs.declared.network.Network.{Network}
use Rattle.bl_flow.specs.Networks.{size, weight_at, HasArc, Walk, here, along, InRange}
use Rattle.bl_base.specs.Sums.{sum_below}
use Rattle.bl_flow.specs.Cuts.{IsCut, cut_weight, NearIn, LiesNear, IsNearSide, at_place}
use Rattle.bl_flow.specs.Split.{in_part, out_part, links_of, both_ways, link_at, full_capacity}
use Rattle.bl_flow.specs.Flows.{link_count, IsFlow, carried_by, amount_if}
use Rattle.bl_flow.specs.Searches.{IsClosed}
use Rattle.bl_base.proofs.Sums.{sum_same, sum_term}
use Rattle.bl_flow.proofs.Amounts.{exactly}
use Rattle.bl_flow.proofs.Links.{count_of, node_at, arc_place, start_place, end_place, unbounded_behind}
use Rattle.bl_flow.proofs.ReverseLinks.{forward_at, reverse_at, both_count}
use Rattle.bl_flow.proofs.NearSides.{side, side_root, side_near, near_at_in, near_at_out}
use Rattle.bl_flow.proofs.Duality.{share, share_in, share_out, share_past, shares_sum, stays}

any_head : (P : ℕ → Type 0) (x : ℕ) (xs : List ℕ) → P x → Any P (x ∷ xs)
any_head P x xs h = (0, x, omega arith, refl, h)

any_tail : (P : ℕ → Type 0) (x : ℕ) (xs : List ℕ) → Any P xs → Any P (x ∷ xs)
any_tail P x xs h = let lt = h.2 in (suc h.0, h.1, omega arith, h.3, h.4)

-- what a link carries over the border of a set that no link with residual capacity leads out of
border : (b c : Bool) (carries capacity fits : ℕ) → capacity + carries ≡ fits → (b ≡ true → 0 < capacity → c ≡ true) → (c ≡ true → 0 < carries → b ≡ true) → amount_if b carries ≡ amount_if c carries + amount_if (b && not c) fits
border true true carries capacity fits e on back = omega arith
border false false carries capacity fits e on back = refl
border true false carries capacity fits e on back =
    elim (cases_lt 0 capacity) as (λ _. carries ≡ 0 + fits) [ inl more ↦ absurd (false≢true (on refl more)) | inr none ↦ omega arith ]
border false true carries capacity fits e on back =
    elim (cases_lt 0 carries) as (λ _. 0 ≡ carries + 0) [ inl more ↦ absurd (false≢true (back refl more)) | inr none ↦ omega arith ]

unweighted : (o : Option ℕ) (d : ℕ) → (unwrap_or o d < d) → IsSome o
unweighted None d lt = absurd (omega arith)
unweighted (Some w) d lt = refl

module _ (n : Network) (capacities : List ℕ) (a : ℕ) (flow : IsFlow n capacities a) (range : InRange n) (small : a < 2 ^ 63)
    (marked : ℕ → Bool) (root : marked (in_part (size n)) ≡ true) (last : marked (out_part (size n)) ≡ false)
    (closed : IsClosed (both_ways (links_of n)) capacities marked) where
  closed_forward : (k : ℕ) → k < link_count n → 0 < slice_index capacities k → marked (link_at (links_of n) k).from ≡ true → marked (link_at (links_of n) k).to ≡ true
  closed_forward k lt capacity there =
      let e = forward_at (links_of n) k lt in
      let count = both_count (links_of n) in
      subst (λ l. marked l.to ≡ true) e (closed k (omega arith) capacity (subst (λ l. marked l.from ≡ true) (sym e) there))

  closed_reverse : (k : ℕ) → k < link_count n → 0 < carried_by n capacities k → marked (link_at (links_of n) k).to ≡ true → marked (link_at (links_of n) k).from ≡ true
  closed_reverse k lt capacity there =
      let e = reverse_at (links_of n) k lt in
      let count = both_count (links_of n) in
      subst (λ l. marked l.to ≡ true) e (closed (k + link_count n) (omega arith) capacity (subst (λ l. marked l.from ≡ true) (sym e) there))

  -- what the links out of the marked parts can take
  abbrev over : ℕ → ℕ
  over k = amount_if (marked (link_at (links_of n) k).from && not (marked (link_at (links_of n) k).to)) (full_capacity n k)

  worth_over : a ≡ sum_below (link_count n) over
  worth_over =
      exactly (links_of n) (link_count n) (carried_by n capacities) (in_part (size n)) (out_part (size n)) a marked over flow.carries root last
      (λ k lt. border (marked (link_at (links_of n) k).from) (marked (link_at (links_of n) k).to) (carried_by n capacities k) (slice_index capacities k) (full_capacity n k) (flow.fits k lt)
      (λ there capacity. closed_forward k lt capacity there) (λ there capacity. closed_reverse k lt capacity there))

  -- a link out of the marked parts takes less than one without a bound could
  over_small : (k : ℕ) → k < link_count n → marked (link_at (links_of n) k).from ≡ true → marked (link_at (links_of n) k).to ≡ false → full_capacity n k < 2 ^ 63
  over_small k lt there out_ =
      let term = sum_term (link_count n) over k lt in
      let same : over k ≡ full_capacity n k = rw (there, out_) refl in
      let all = worth_over in
      omega arith

  -- so the marked parts are left through nodes alone
  outer_closed : (k : ℕ) → k < link_count n → size n ≤ k → marked (link_at (links_of n) k).from ≡ true → marked (link_at (links_of n) k).to ≡ true
  outer_closed k lt behind there =
      elim (cases_Bool (marked (link_at (links_of n) k).to)) as (λ _. marked (link_at (links_of n) k).to ≡ true) [
        | inl q ↦ q
        | inr q ↦
            let less = over_small k lt there q in
            let bound = unbounded_behind n k behind in
            absurd (omega arith)
      ]

  arc_closed : (u v : ℕ) → HasArc n u v → marked (out_part u) ≡ true → marked (in_part v) ≡ true
  arc_closed u v arc there =
      let place = arc_place n u v arc in
      subst (λ l. marked l.to ≡ true) place.3 (outer_closed place.0 place.1 place.2 (subst (λ l. marked l.from ≡ true) (sym place.3) there))

  start_marked : (v : ℕ) → Contains n.starts v → marked (in_part v) ≡ true
  start_marked v start =
      let place = start_place n v start in
      subst (λ l. marked l.to ≡ true) place.3 (outer_closed place.0 place.1 place.2 (subst (λ l. marked l.from ≡ true) (sym place.3) root))

  end_unmarked : (v : ℕ) → Contains n.ends v → marked (out_part v) ≡ true → ⊥
  end_unmarked v end there =
      let place = end_place n v end in
      let reached : marked (out_part (size n)) ≡ true = subst (λ l. marked l.to ≡ true) place.3 (outer_closed place.0 place.1 place.2 (subst (λ l. marked l.from ≡ true) (sym place.3) there)) in
      false≢true (sym last ∙ reached)

  node_weighted : (k : ℕ) → k < size n → marked (in_part k) ≡ true → marked (out_part k) ≡ false → IsSome (weight_at n k)
  node_weighted k lt there out_ =
      let e = node_at n k lt in
      let count = count_of n in
      let less = over_small k (omega arith) (subst (λ l. marked l.from ≡ true) (sym e) there) (subst (λ l. marked l.to ≡ false) (sym e) out_) in
      unweighted (weight_at n k) (2 ^ 63) less

  module _ (near_in near_out : List Bool) (in_length : length near_in ≡ size n) (out_length : length near_out ≡ size n)
      (ins : (v : ℕ) → v < size n → at_place near_in v ≡ marked (in_part v)) (outs : (v : ℕ) → v < size n → at_place near_out v ≡ marked (out_part v)) where
    abbrev cut : ℕ → Bool
    cut v = at_place near_in v && not (at_place near_out v)

    in_within : (v : ℕ) → at_place near_in v ≡ true → v < size n
    in_within v h =
        elim (cases_lt v (size n)) as (λ _. v < size n) [
          | inl lt ↦ lt
          | inr above ↦
              let past : at_place near_in v ≡ false = ap (λ o. unwrap_or o false) (slice_get_past near_in v (omega arith)) in
              absurd (false≢true (sym past ∙ h))
        ]

    out_within : (v : ℕ) → at_place near_out v ≡ true → v < size n
    out_within v h =
        elim (cases_lt v (size n)) as (λ _. v < size n) [
          | inl lt ↦ lt
          | inr above ↦
              let past : at_place near_out v ≡ false = ap (λ o. unwrap_or o false) (slice_get_past near_out v (omega arith)) in
              absurd (false≢true (sym past ∙ h))
        ]

    cut_within : (v : ℕ) → v < size n → cut v ≡ (marked (in_part v) && not (marked (out_part v)))
    cut_within v lt = rw (ins v lt, outs v lt) refl

    cut_from : (v : ℕ) → v < size n → marked (in_part v) ≡ true → marked (out_part v) ≡ false → cut v ≡ true
    cut_from v lt there out_ = cut_within v lt ∙ and_from _ _ there (not_from_false _ out_)

    cut_parts : (v : ℕ) → cut v ≡ true → (v < size n) × (marked (in_part v) ≡ true) × (marked (out_part v) ≡ false)
    cut_parts v h =
        let parts = and_parts (at_place near_in v) (not (at_place near_out v)) h in
        let lt = in_within v parts.0 in
        let open_ = and_parts (marked (in_part v)) (not (marked (out_part v))) (sym (cut_within v lt) ∙ h) in
        (lt, open_.0, not_true (marked (out_part v)) open_.1)
      where
        not_true : (b : Bool) → not b ≡ true → b ≡ false
        not_true true e = absurd (false≢true e)
        not_true false e = refl

    passed : (v : ℕ) → v < size n → marked (in_part v) ≡ true → IsTrue (not (cut v)) → marked (out_part v) ≡ true
    passed v lt there open_ =
        elim (cases_Bool (marked (out_part v))) as (λ _. marked (out_part v) ≡ true) [
          | inl q ↦ q
          | inr q ↦ absurd (false≢true (sym (not_from_true (cut v) (cut_from v lt there q)) ∙ open_))
        ]

    -- each walk to an end from a marked in part meets the cut
    meet_on : (u e : ℕ) (before : List ℕ) → Walk n u before e → u < size n → marked (in_part u) ≡ true → Contains n.ends e → Any (λ v. IsTrue (cut v)) (before ++ e ∷ [])
    meet_on u e before (here _) lt there end =
        elim (cases_Bool (marked (out_part u))) as (λ _. Any (λ v. IsTrue (cut v)) (u ∷ [])) [
          | inl q ↦ absurd (end_unmarked u end q)
          | inr q ↦ any_head (λ v. IsTrue (cut v)) u [] (cut_from u lt there q)
        ]
    meet_on u e before (along _ v _ rest arc walk) lt there end =
        elim (cases_Bool (marked (out_part u))) as (λ _. Any (λ v. IsTrue (cut v)) (u ∷ (rest ++ e ∷ []))) [
          | inl q ↦
              let P : Arc → Type 0 = λ w. (w.from < size n) × (w.to < size n) in
              let ends_ = All-contains P n.arcs (record { from = u; to = v }) range.arcs arc in
              any_tail (λ v. IsTrue (cut v)) u (rest ++ e ∷ []) (meet_on v e rest walk ends_.1 (arc_closed u v arc q) end)
          | inr q ↦ any_head (λ v. IsTrue (cut v)) u (rest ++ e ∷ []) (cut_from u lt there q)
        ]

    pub is_cut : IsCut n cut
    is_cut = record {
      weighted = λ v h. let parts = cut_parts v h in node_weighted v parts.0 parts.1 parts.2;
      meets = λ s e before start end walk. meet_on s e before walk (All-contains (λ w. w < size n) n.starts s range.starts start) (start_marked s start) end;
    }

    share_of : (k : ℕ) → k < link_count n → over k ≡ share n cut k
    share_of k lt =
        elim (cases_lt k (size n)) as (λ _. over k ≡ share n cut k) [
          | inl within ↦
              let e = node_at n k within in
              let node : over k ≡ amount_if (cut k) (full_capacity n k) = rw (e, cut_within k within) refl in
              elim (cases_Bool (cut k)) as (λ _. over k ≡ share n cut k) [
                | inl q ↦
                    let whole : amount_if (cut k) (full_capacity n k) ≡ full_capacity n k = rw q refl in
                    node ∙ whole ∙ share_in n cut k q (is_cut.weighted k q)
                | inr q ↦
                    let none : amount_if (cut k) (full_capacity n k) ≡ 0 = rw q refl in
                    node ∙ none ∙ sym (share_out n cut k q)
              ]
          | inr behind ↦
              let none : over k ≡ 0 =
              elim (cases_Bool (marked (link_at (links_of n) k).from)) as (λ _. over k ≡ 0) [
                | inl q ↦ rw (q, outer_closed k lt behind q) refl
                | inr q ↦ rw q refl
              ] in
              none ∙ sym (share_past n cut k behind)
        ]

    -- the cut weighs what flows
    pub weighs : cut_weight n cut ≡ a
    weighs = sym (worth_over ∙ sum_same (link_count n) over (share n cut) share_of ∙ shares_sum n cut)

    module _ (least : (set : ℕ → Bool) → IsClosed (both_ways (links_of n)) capacities set → set (in_part (size n)) ≡ true → (part : ℕ) → marked part ≡ true → set part ≡ true) where
      -- the marked parts lie in the near side of each cut of that weight
      pub lies_near : (other : ℕ → Bool) → IsCut n other → cut_weight n other ≤ a → LiesNear n other near_in near_out
      lies_near other is weight =
          let into = least (side n other) (stays n capacities a flow range other is weight) (side_root n other) in
          record {
            in_parts = λ v h.
                let lt = in_within v h in
                near_at_in n other v lt (side_near n other is range (in_part v) (into (in_part v) (sym (ins v lt) ∙ h)));
            out_parts = λ v h.
                let lt = out_within v h in
                near_at_out n other v lt (side_near n other is range (out_part v) (into (out_part v) (sym (outs v lt) ∙ h)));
          }

      near_on : (u v : ℕ) (before : List ℕ) → Walk n u before v → u < size n → marked (in_part u) ≡ true → All (λ w. IsTrue (not (cut w))) before → (v < size n) × (marked (in_part v) ≡ true)
      near_on u v before (here _) lt there open_ = (lt, there)
      near_on u v before (along _ w _ rest arc walk) lt there open_ =
          let P : Arc → Type 0 = λ w. (w.from < size n) × (w.to < size n) in
          let ends_ = All-contains P n.arcs (record { from = u; to = w }) range.arcs arc in
          let out_ = passed u lt there (All-head (λ w. IsTrue (not (cut w))) u rest open_) in
          near_on w v rest walk ends_.1 (arc_closed u w arc out_) (All-tail (λ w. IsTrue (not (cut w))) u rest open_)

      near_marked : (v : ℕ) → NearIn n cut v → (v < size n) × (marked (in_part v) ≡ true)
      near_marked v near = near_on near.0 v near.1 near.3 (All-contains (λ w. w < size n) n.starts near.0 range.starts near.2) (start_marked near.0 near.2) near.4

      pub near_side : IsNearSide n cut near_in near_out
      near_side =
          let lies = lies_near cut is_cut (let e = weighs in omega arith) in
          record {
            in_places = in_length;
            out_places = out_length;
            in_parts = λ v. (λ h. lies.in_parts v h, λ near. let there = near_marked v near in ins v there.0 ∙ there.1);
            out_parts = λ v. (λ h. lies.out_parts v h, λ near. let there = near_marked v near.0 in outs v there.0 ∙ passed v there.0 there.1 near.1);
          }
