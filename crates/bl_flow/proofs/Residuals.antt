-- Walks of residual arcs are walks of links with residual capacity, behind one link to a start.
use Rattle.std.proofs.Common.{◌≡◌, ℕ, suc, ◌+◌, ◌-◌, ◌*◌, ◌^◌, ◌<◌, ◌≤◌, List, ◌++◌, length, map, Option, Some, None, unwrap_or, drop, refl, sym, ap, subst, ◌∙◌, arith, ◌⊎◌, inl, inr, slice_index, replicate}
use Rattle.std.specs.List.{All, Contains}
use Rattle.std.proofs.lemmas.Bool.{cases_lt}
use Rattle.std.proofs.lemmas.Grind.{same_number_lists}
use Rattle.std.proofs.lemmas.List.{length-take-le, length-drop, length-replicate, get_or-replicate, get_or-take, get_or-drop, get_or_append_left, get_or-append-add, get_or-append_right, get_or-map, get_or_default, length-append, length-map}
use Rattle.std.proofs.lemmas.List.Elements.{All-append, All-map, All-weaker, All-contains, All-get_or, All-contains_itself}
use Rattle.bl_flow.specs.declared.network.Network.{Network}
use Rattle.bl_flow.specs.declared.split.Link.{Link}
use Rattle.bl_flow.specs.Networks.{size, weight_at, HasArc, InRange}
use Rattle.bl_flow.specs.Split.{in_part, out_part, node_link, arc_link, start_link, end_link, links_of, both_ways, link_at, reverse_link, full_capacity}
use Rattle.bl_flow.specs.Flows.{link_count, carried_by, IsFlow}
use Rattle.bl_flow.specs.Levels.{IsReached, here, onward, level_at, AreLevels}
use Rattle.bl_flow.specs.PackedNetworks.{lowered}
use Rattle.bl_flow.proofs.LevelSearch.{some_same, none_some, level_in}
use Rattle.bl_flow.specs.Residuals.{Loaded, loaded_by, arc_at, IsResidualArc, through, back, along, against, ResidualWalk, at_start, go_on, AreLevelsOf}
use Rattle.bl_flow.proofs.Links.{node_at, nodes_part, nodes_length, outer_part, count_of, unbounded_behind, arc_place, start_place}
use Rattle.bl_flow.proofs.ReverseLinks.{both_count, forward_at, reverse_at, place_cases}

module _ (n : Network) where
  abbrev pub borders : List Link
  borders = map (start_link (size n)) n.starts ++ map (end_link (size n)) n.ends

  -- a link along an arc
  pub arc_link_at : (a : ℕ) → a < length n.arcs → link_at (links_of n) (size n + a) ≡ arc_link (arc_at n a)
  arc_link_at a lt =
      let front = nodes_length n in
      let count = length-map n.arcs arc_link in
      ap (link_at (links_of n)) (omega arith) ∙ get_or-append-add (nodes_part n) (outer_part n) a _
      ∙ get_or_append_left (map arc_link n.arcs) borders _ a (omega arith) ∙ get_or-map arc_link n.arcs a _ _ lt

  pub arcs_within : (a : ℕ) → a < length n.arcs → size n + a < link_count n
  arcs_within a lt =
      let count = count_of n in
      let arcs = length-map n.arcs arc_link in
      let all = length-append (map arc_link n.arcs) borders in
      omega arith

  -- a link behind those
  pub data IsBehind (link : Link) : Type 0 where
    to_start : (s : ℕ) → Contains n.starts s → link ≡ start_link (size n) s → IsBehind link
    from_end : (e : ℕ) → Contains n.ends e → link ≡ end_link (size n) e → IsBehind link

  starts_behind : All IsBehind (map (start_link (size n)) n.starts)
  starts_behind =
      let P : ℕ → Type 0 = λ v. Contains n.starts v in
      let Q : ℕ → Type 0 = λ v. IsBehind (start_link (size n) v) in
      let each : (v : ℕ) → P v → Q v = λ v h. to_start v h refl in
      All-map IsBehind (start_link (size n)) n.starts (All-weaker P Q each n.starts (All-contains_itself n.starts))

  ends_behind : All IsBehind (map (end_link (size n)) n.ends)
  ends_behind =
      let P : ℕ → Type 0 = λ v. Contains n.ends v in
      let Q : ℕ → Type 0 = λ v. IsBehind (end_link (size n) v) in
      let each : (v : ℕ) → P v → Q v = λ v h. from_end v h refl in
      All-map IsBehind (end_link (size n)) n.ends (All-weaker P Q each n.ends (All-contains_itself n.ends))

  pub behind_at : (k : ℕ) → size n + length n.arcs ≤ k → k < link_count n → IsBehind (link_at (links_of n) k)
  behind_at k above below =
      let front = nodes_length n in
      let count = count_of n in
      let arcs = length-map n.arcs arc_link in
      let all = length-append (map arc_link n.arcs) borders in
      let first = get_or-append_right (nodes_part n) (outer_part n) (size n) k (record { from = 0; to = 0 }) front (omega arith) in
      let second = get_or-append_right (map arc_link n.arcs) borders (length n.arcs) (k - size n) (record { from = 0; to = 0 }) arcs (omega arith) in
      subst IsBehind (sym (first ∙ second))
      (All-get_or IsBehind borders (k - size n - length n.arcs) (record { from = 0; to = 0 }) (omega arith) (All-append IsBehind (map (start_link (size n)) n.starts) (map (end_link (size n)) n.ends) starts_behind ends_behind))

  -- each link by its place
  pub data KindAt (k : ℕ) (link : Link) : Type 0 where
    is_node : k < size n → link ≡ node_link k → KindAt k link
    is_arc : (a : ℕ) → a < length n.arcs → k ≡ size n + a → link ≡ arc_link (arc_at n a) → KindAt k link
    is_behind : size n ≤ k → IsBehind link → KindAt k link

  pub kind_at : (k : ℕ) → k < link_count n → KindAt k (link_at (links_of n) k)
  kind_at k lt =
      elim (cases_lt k (size n)) as (λ _. KindAt k (link_at (links_of n) k)) [
        | inl low ↦ is_node low (node_at n k low)
        | inr high ↦
            elim (cases_lt k (size n + length n.arcs)) as (λ _. KindAt k (link_at (links_of n) k)) [
              | inl middle ↦
                  let place : k ≡ size n + (k - size n) = omega arith in
                  is_arc (k - size n) (omega arith) place (ap (link_at (links_of n)) place ∙ arc_link_at (k - size n) (omega arith))
              | inr behind ↦ is_behind high (behind_at k behind lt)
            ]
      ]

  module _ (range : InRange n) (capacities : List ℕ) (amount : ℕ) (flow : IsFlow n capacities amount) (small : amount < 2 ^ 63) where
    abbrev r : Loaded
    r = loaded_by n capacities

    abbrev root : ℕ
    root = in_part (size n)

    abbrev end : ℕ
    end = out_part (size n)

    abbrev links : List Link
    links = both_ways (links_of n)

    pub load_is : (v : ℕ) → v < size n → slice_index r.loads v ≡ carried_by n capacities v
    load_is v lt = get_or-take (size n) (drop (link_count n) capacities) v 0 lt ∙ get_or-drop (link_count n) capacities v 0 ∙ ap (slice_index capacities) (omega arith)

    pub carried_is : (a : ℕ) → a < length n.arcs → slice_index r.carried a ≡ carried_by n capacities (size n + a)
    carried_is a lt = get_or-take (length n.arcs) (drop (link_count n + size n) capacities) a 0 lt ∙ get_or-drop (link_count n + size n) capacities a 0 ∙ ap (slice_index capacities) (omega arith)

    pub arc_ends : (a : ℕ) → a < length n.arcs → ((arc_at n a).from < size n) × ((arc_at n a).to < size n)
    arc_ends a lt = All-get_or (λ w. (w.from < size n) × (w.to < size n)) n.arcs a (record { from = 0; to = 0 }) lt range.arcs

    has_arc : (a : ℕ) → a < length n.arcs → HasArc n (arc_at n a).from (arc_at n a).to
    has_arc a lt = (a, lt, get_or_default n.arcs a _ (record { from = 0; to = 0 }) lt)

    -- some amount more fits through a node with residual capacity
    more_fits : (v : ℕ) → v < size n → 0 < slice_index capacities v → (o : Option ℕ) → weight_at n v ≡ o → (o ≡ None) ⊎ ((w : ℕ) × (o ≡ Some w) × (slice_index r.loads v < w))
    more_fits v lt capacity None e = inl refl
    more_fits v lt capacity (Some w) e =
        let fits = flow.fits v (let count = count_of n in omega arith) in
        let same : full_capacity n v ≡ w = ap (λ o. unwrap_or o (2 ^ 63)) e in
        let load = load_is v lt in
        inr (w, refl, omega arith)

    -- a walk of links with residual capacity to a place is a walk of residual arcs, and longer
    pub record Shorter (steps part : ℕ) : Type 0 where
      pub count : ℕ
      pub less : count < steps
      pub walk : ResidualWalk r count part

    one_more : (steps from to : ℕ) → Shorter steps from → IsResidualArc r from to → Shorter (suc steps) to
    one_more steps from to before arc = record { count = suc before.count; less = let lt = before.less in omega arith; walk = go_on before.count from to before.walk arc }

    forward : (steps part k : ℕ) (link : Link) → KindAt k link → 0 < slice_index capacities k → (link.from < 2 * size n → Shorter steps link.from) → link.to ≡ part → part < 2 * size n → Shorter (suc steps) part
    forward steps part k link (is_node lt e) capacity before to inside =
        let from : link.from ≡ in_part k = ap (λ l. l.from) e in
        let is : out_part k ≡ part = sym (ap (λ l. l.to) e) ∙ to in
        subst (Shorter (suc steps)) is
        (one_more steps (in_part k) (out_part k) (subst (Shorter steps) from (before (omega arith))) (through k lt (more_fits k lt capacity (weight_at n k) refl)))
    forward steps part k link (is_arc a lt place e) capacity before to inside =
        let from : link.from ≡ out_part (arc_at n a).from = ap (λ l. l.from) e in
        let is : in_part (arc_at n a).to ≡ part = sym (ap (λ l. l.to) e) ∙ to in
        let ends_ = arc_ends a lt in
        let low = ends_.0 in
        subst (Shorter (suc steps)) is
        (one_more steps (out_part (arc_at n a).from) (in_part (arc_at n a).to) (subst (Shorter steps) from (before (omega arith))) (along (arc_at n a).from (arc_at n a).to (has_arc a lt)))
    forward steps part k link (is_behind high (to_start s start e)) capacity before to inside =
        let is : in_part s ≡ part = sym (ap (λ l. l.to) e) ∙ to in
        subst (Shorter (suc steps)) is (record { count = 0; less = omega arith; walk = at_start s start })
    forward steps part k link (is_behind high (from_end s last e)) capacity before to inside =
        let is : out_part (size n) ≡ part = sym (ap (λ l. l.to) e) ∙ to in
        absurd (omega arith)

    backward : (steps part k : ℕ) (link : Link) → KindAt k link → 0 < carried_by n capacities k → (link.to < 2 * size n → Shorter steps link.to) → (link.to ≡ end → ⊥) → link.from ≡ part → part < 2 * size n → Shorter (suc steps) part
    backward steps part k link (is_node lt e) some before goes from inside =
        let to : link.to ≡ out_part k = ap (λ l. l.to) e in
        let is : in_part k ≡ part = sym (ap (λ l. l.from) e) ∙ from in
        let load = load_is k lt in
        subst (Shorter (suc steps)) is
        (one_more steps (out_part k) (in_part k) (subst (Shorter steps) to (before (omega arith))) (back k lt (omega arith)))
    backward steps part k link (is_arc a lt place e) some before goes from inside =
        let to : link.to ≡ in_part (arc_at n a).to = ap (λ l. l.to) e in
        let is : out_part (arc_at n a).from ≡ part = sym (ap (λ l. l.from) e) ∙ from in
        let ends_ = arc_ends a lt in
        let low = ends_.1 in
        let carried_ = carried_is a lt in
        let same = ap (carried_by n capacities) place in
        subst (Shorter (suc steps)) is
        (one_more steps (in_part (arc_at n a).to) (out_part (arc_at n a).from) (subst (Shorter steps) to (before (omega arith))) (against a lt (omega arith)))
    backward steps part k link (is_behind high (to_start s start e)) some before goes from inside =
        let is : in_part (size n) ≡ part = sym (ap (λ l. l.from) e) ∙ from in
        absurd (omega arith)
    backward steps part k link (is_behind high (from_end s last e)) some before goes from inside = absurd (goes (ap (λ l. l.to) e))

    pub walk_out : (steps part : ℕ) → IsReached links capacities root end steps part → part < 2 * size n → Shorter steps part
    walk_out _ _ here inside = absurd (omega arith)
    walk_out _ _ (onward steps part k lt capacity there goes e) inside =
        elim (place_cases (links_of n) k lt) as (λ _. Shorter (suc steps) part) [
          | inl low ↦
              let same = forward_at (links_of n) k low in
              forward steps part k (link_at (links_of n) k) (kind_at k low) capacity
              (λ below. subst (λ l. Shorter steps l.from) same (walk_out steps (link_at links k).from there (subst (λ l. l.from < 2 * size n) (sym same) below)))
              (ap (λ l. l.to) (sym same) ∙ e) inside
          | inr high ↦
              let same : link_at links k ≡ reverse_link (link_at (links_of n) high.0) = ap (link_at links) high.2 ∙ reverse_at (links_of n) high.0 high.1 in
              backward steps part high.0 (link_at (links_of n) high.0) (kind_at high.0 high.1) (subst (λ j. 0 < slice_index capacities j) high.2 capacity)
              (λ below. subst (λ l. Shorter steps l.from) same (walk_out steps (link_at links k).from there (subst (λ l. l.from < 2 * size n) (sym same) below)))
              (λ q. goes (ap (λ l. l.from) same ∙ q)) (ap (λ l. l.to) (sym same) ∙ e) inside
        ]

    -- a link without a bound always has residual capacity
    pub always_capacity : (k : ℕ) → k < link_count n → full_capacity n k ≡ 2 ^ 63 → 0 < slice_index capacities k
    always_capacity k lt e = let fits = flow.fits k lt in let most = flow.most k lt in omega arith

    pub by_link : (steps from to k : ℕ) (link : Link) → k < link_count n → link_at (links_of n) k ≡ link → 0 < slice_index capacities k → link.from ≡ from → link.to ≡ to → (from ≡ end → ⊥)
        → IsReached links capacities root end steps from → IsReached links capacities root end (suc steps) to
    by_link steps from to k link lt is capacity f t goes before =
        let count = both_count (links_of n) in
        let same : link_at links k ≡ link = forward_at (links_of n) k lt ∙ is in
        let from_is : (link_at links k).from ≡ from = ap (λ l. l.from) same ∙ f in
        onward steps to k (omega arith) capacity (subst (IsReached links capacities root end steps) (sym from_is) before) (λ q. goes (sym from_is ∙ q)) (ap (λ l. l.to) same ∙ t)

    by_reverse : (steps from to k : ℕ) (link : Link) → k < link_count n → link_at (links_of n) k ≡ link → 0 < carried_by n capacities k → link.to ≡ from → link.from ≡ to → (from ≡ end → ⊥)
        → IsReached links capacities root end steps from → IsReached links capacities root end (suc steps) to
    by_reverse steps from to k link lt is some t f goes before =
        let count = both_count (links_of n) in
        let same : link_at links (k + link_count n) ≡ reverse_link link = reverse_at (links_of n) k lt ∙ ap reverse_link is in
        let from_is : (link_at links (k + link_count n)).from ≡ from = ap (λ l. l.from) same ∙ t in
        onward steps to (k + link_count n) (omega arith) some (subst (IsReached links capacities root end steps) (sym from_is) before) (λ q. goes (sym from_is ∙ q)) (ap (λ l. l.to) same ∙ f)

    by_arc : (steps from to : ℕ) → IsResidualArc r from to → IsReached links capacities root end steps from → IsReached links capacities root end (suc steps) to
    by_arc steps _ _ (through v lt more) before =
        let count = count_of n in
        by_link steps (in_part v) (out_part v) v (node_link v) (omega arith) (node_at n v lt)
        (elim more as (λ _. 0 < slice_index capacities v) [
          | inl none ↦ always_capacity v (omega arith) (ap (λ o. unwrap_or o (2 ^ 63)) none)
          | inr some ↦
              let fits = flow.fits v (omega arith) in
              let same : full_capacity n v ≡ some.0 = ap (λ o. unwrap_or o (2 ^ 63)) some.1 in
              let load = load_is v lt in let less = some.2 in omega arith
        ]) refl refl (λ q. omega arith) before
    by_arc steps _ _ (back v lt some) before =
        let count = count_of n in
        let load = load_is v lt in
        by_reverse steps (out_part v) (in_part v) v (node_link v) (omega arith) (node_at n v lt) (omega arith) refl refl (λ q. omega arith) before
    by_arc steps _ _ (along u v arc) before =
        let place = arc_place n u v arc in
        let ends_ = All-contains (λ w. (w.from < size n) × (w.to < size n)) n.arcs (record { from = u; to = v }) range.arcs arc in
        let low = ends_.0 in
        by_link steps (out_part u) (in_part v) place.0 (arc_link (record { from = u; to = v })) place.1 place.3 (always_capacity place.0 place.1 (unbounded_behind n place.0 place.2)) refl refl (λ q. omega arith) before
    by_arc steps _ _ (against a lt some) before =
        let ends_ = arc_ends a lt in
        let low = ends_.1 in
        let carried_ = carried_is a lt in
        by_reverse steps (in_part (arc_at n a).to) (out_part (arc_at n a).from) (size n + a) (arc_link (arc_at n a)) (arcs_within a lt) (arc_link_at a lt) (omega arith) refl refl (λ q. omega arith) before

    pub walk_in : (steps part : ℕ) → ResidualWalk r steps part → IsReached links capacities root end (suc steps) part
    walk_in _ _ (at_start s start) =
        let place = start_place n s start in
        by_link 0 root (in_part s) place.0 (start_link (size n) s) place.1 place.3 (always_capacity place.0 place.1 (unbounded_behind n place.0 place.2)) refl refl (λ q. omega arith) here
    walk_in _ _ (go_on steps from to walk arc) = by_arc (suc steps) from to arc (walk_in steps from walk)

    walk_inside : (steps place : ℕ) → ResidualWalk r steps place → place < 2 * size n
    walk_inside _ _ (at_start s start) = let lt = All-contains (λ v. v < size n) n.starts s range.starts start in omega arith
    walk_inside _ _ (go_on steps from _ walk (through v lt more)) = omega arith
    walk_inside _ _ (go_on steps from _ walk (back v lt some)) = omega arith
    walk_inside _ _ (go_on steps from _ walk (along u v arc)) =
        let ends_ = All-contains (λ w. (w.from < size n) × (w.to < size n)) n.arcs (record { from = u; to = v }) range.arcs arc in
        let low = ends_.1 in
        omega arith
    walk_inside _ _ (go_on steps from _ walk (against a lt some)) = let ends_ = arc_ends a lt in let low = ends_.0 in omega arith

    lower_inverse : (o : Option ℕ) (d : ℕ) → lowered o ≡ Some d → (l : ℕ) × (o ≡ Some l) × (l - 1 ≡ d)
    lower_inverse None d e = absurd (none_some e)
    lower_inverse (Some l) d e = (l, refl, some_same e)

    -- the levels of parts, counted from the starts' in places, are those of the residual network
    pub levels_out : (levels shown : List (Option ℕ)) → AreLevels links capacities root end levels → length shown ≡ 2 * size n
        → ((p : ℕ) → p < 2 * size n → level_at shown p ≡ lowered (level_at levels p)) → AreLevelsOf r shown
    levels_out levels shown are count each = record {
      places = count;
      sound = λ place d is.
          let inside = level_in shown place d is in
          let l = lower_inverse (level_at levels place) d (sym (each place (omega arith)) ∙ is) in
          let s = walk_out l.0 place (are.sound place l.0 l.1) (omega arith) in
          let again = are.least place (suc s.count) (walk_in s.count place s.walk) in
          let same = some_same (sym again.1 ∙ l.1) in
          let less = s.less in let most = again.2 in let lower = l.2 in
          subst (λ c. ResidualWalk r c place) (omega arith) s.walk;
      least = λ place steps walk.
          let l = are.least place (suc steps) (walk_in steps place walk) in
          let most = l.2 in
          (l.0 - 1, each place (walk_inside steps place walk) ∙ ap lowered l.1, omega arith);
    }

-- where nothing flows, nothing is carried and no node is loaded
pub nothing_loaded : (n : Network) → InRange n → (capacities : List ℕ) → IsFlow n capacities 0
    → ((loaded_by n capacities).loads ≡ replicate (size n) 0) × ((loaded_by n capacities).carried ≡ replicate (length n.arcs) 0)
nothing_loaded n range capacities flow = (
  same_number_lists (loaded_by n capacities).loads (replicate (size n) 0) (size_1 ∙ sym (length-replicate (size n) 0))
      (λ k lt. let inside : k < size n = let s = size_1 in omega arith in let none = flow.most k (let c = count_of n in omega arith) in
      load_is n range capacities 0 flow (omega arith) k inside ∙ le_zero none ∙ sym (get_or-replicate (size n) k 0 0 inside)),
  same_number_lists (loaded_by n capacities).carried (replicate (length n.arcs) 0) (size_2 ∙ sym (length-replicate (length n.arcs) 0))
      (λ k lt. let inside : k < length n.arcs = let s = size_2 in omega arith in let none = flow.most (size n + k) (arcs_within n k inside) in
      carried_is n range capacities 0 flow (omega arith) k inside ∙ le_zero none ∙ sym (get_or-replicate (length n.arcs) k 0 0 inside)),
)
  where
    le_zero : {x : ℕ} → x ≤ 0 → x ≡ 0
    le_zero le = omega arith

    size_1 : length (loaded_by n capacities).loads ≡ size n
    size_1 = let c = count_of n in let p = flow.places in let d = length-drop (link_count n) capacities in length-take-le (size n) (drop (link_count n) capacities) (omega arith)

    size_2 : length (loaded_by n capacities).carried ≡ length n.arcs
    size_2 =
        let c = count_of n in let p = flow.places in let d = length-drop (link_count n + size n) capacities in
        let arcs = length-map n.arcs arc_link in
        let all = length-append (map arc_link n.arcs) (borders n) in
        length-take-le (length n.arcs) (drop (link_count n + size n) capacities) (omega arith)
