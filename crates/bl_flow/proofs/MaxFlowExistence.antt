-- Some flow is a maximum: unit after unit goes along trails with residual capacity, until none leads to the end; and it is split into walks.
use Rattle.std.proofs.Common.{◌≡◌, ℕ, zero, suc, ◌+◌, ◌-◌, ◌^◌, ◌<◌, ◌≤◌, Bool, true, false, List, [], ◌∷◌, ◌++◌, length, drop, cond, reverse, set, length-set, length-drop, Some, refl, sym, ap, subst, ◌∙◌, arith, ◌⊎◌, inl, inr, slice_get, slice_index, nat_lt, ◌&&◌}
use Rattle.std.specs.Prelude.{IsSome, filter_map, unwrap_or}
use Rattle.std.specs.List.{Contains}
use Rattle.std.proofs.lemmas.Bool.{cases_Bool, cases_lt, cases_eq, false≢true, lt-ltb, le-ltb, ltb-true, and_from, and_parts}
use Rattle.std.proofs.lemmas.Option.{get_or_from_slice_get}
use Rattle.std.proofs.lemmas.List.{get_or-set_same, get_or-set_other, get_or-drop}
use Rattle.bl_base.proofs.Sums.{sum_none}
use Rattle.bl_flow.specs.declared.network.FlowResult.{FlowResult}
use Rattle.bl_flow.specs.declared.network.Network.{Network}
use Rattle.bl_flow.specs.declared.network.NodePath.{NodePath}
use Rattle.bl_flow.specs.declared.split.Link.{Link}
use Rattle.bl_flow.specs.Cuts.{Meets, at_place}
use Rattle.bl_flow.specs.MaxFlow.{IsMaxFlow}
use Rattle.bl_flow.specs.Flows.{AreReverse, HasCapacities, IsCarried, IsFlow, IsPushed, IsTaken, LeadsBack, amount_if, link_count}
use Rattle.bl_flow.specs.FullFlows.{IsPathTaken}
use Rattle.bl_flow.specs.Networks.{InRange, carried, load, size, total_weight, weight_at}
use Rattle.bl_flow.specs.AdjacencyLists.{reverse_place}
use Rattle.bl_flow.specs.Searches.{IsClosed, IsTrail}
use Rattle.bl_flow.specs.Split.{both_ways, entered, full_capacity, in_part, link_at, links_of, out_part}
use Rattle.bl_flow.proofs.Amounts.{at_most}
use Rattle.bl_flow.proofs.ReverseLinks.{both_count, forward_at}
use Rattle.bl_flow.proofs.FlowDecomposition.{Splitting, carries_first, path_taken, splitting_begins, splitting_more}
use Rattle.bl_flow.proofs.Duality.{worth_at_most}
use Rattle.bl_flow.proofs.FlowBounds.{at_most_total, flow_begins, flow_more, load_fits}
use Rattle.bl_flow.proofs.CutWorth.{is_cut, lies_near, near_side, weighs}
use Rattle.bl_flow.proofs.Augmentation.{Pushing, Taking, all_taken, moved_by, pushed, pushing_begins, pushing_more, taking_begins, taking_more}
use Rattle.bl_flow.proofs.Reach.{reaches, reaches_itself, reaches_least, reaches_on}
use Rattle.bl_flow.proofs.LastLevels.{reverse_pair}

-- ---- elements of lists

none_in : (k : ℕ) → Contains [] k → ⊥
none_in k h = let lt = h.1 in omega arith

found_at : (j k : ℕ) (trail : List ℕ) (place : ℕ) → place < length (j ∷ trail) → Rattle.std.specs.List.slice_index_or (j ∷ trail) place k ≡ k → (j ≡ k) ⊎ Contains trail k
found_at j k trail zero lt e = inl e
found_at j k trail (suc place) lt e = inr (place, omega arith, e)

default_at : (trail : List ℕ) (place k : ℕ) → place < length trail → slice_index trail place ≡ k → Contains trail k
default_at [] place k lt e = absurd (omega arith)
default_at (j ∷ trail) zero k lt e = (0, omega arith, e)
default_at (j ∷ trail) (suc place) k lt e = let rest = default_at trail place k (omega arith) e in (suc rest.0, let below = rest.1 in omega arith, rest.2)

-- ---- trails without a link twice

module _ (links : List Link) (Q : ℕ → Type 0) (root : ℕ) where
  abbrev Apart : List ℕ → Type 0
  Apart [] = Unit {0}
  Apart (k ∷ trail) = (Contains trail k → ⊥) × Apart trail

  abbrev Each : List ℕ → Type 0
  Each [] = Unit {0}
  Each (k ∷ trail) = Q k × Each trail

  apart_places : (trail : List ℕ) → Apart trail → (p q : ℕ) → p < q → q < length trail → slice_index trail p ≡ slice_index trail q → ⊥
  apart_places [] a p q lt within e = omega arith
  apart_places (k ∷ trail) a p zero lt within e = omega arith
  apart_places (k ∷ trail) a zero (suc q) lt within e = a.0 (default_at trail q k (omega arith) (sym e))
  apart_places (k ∷ trail) a (suc p) (suc q) lt within e = apart_places trail a.1 p q (omega arith) (omega arith) e

  each_place : (trail : List ℕ) → Each trail → (place : ℕ) → place < length trail → Q (slice_index trail place)
  each_place [] each place lt = absurd (omega arith)
  each_place (k ∷ trail) each zero lt = each.0
  each_place (k ∷ trail) each (suc place) lt = each_place trail each.1 place (omega arith)

  -- a trail back from a part to the root by links with a property
  record TrailTo (part : ℕ) : Type 0 where
    trail : List ℕ
    back : LeadsBack links trail root part
    apart : Apart trail
    each : Each trail

  -- a trail has a link, and is one without what is before it
  cut_at : (k part : ℕ) (trail : List ℕ) → LeadsBack links trail root part → Apart trail → Each trail → (Contains trail k → ⊥) ⊎ TrailTo (link_at links k).to
  cut_at k part [] back apart each = inl (none_in k)
  cut_at k part (j ∷ trail) back apart each =
      elim (cases_eq k j) as (λ _. (Contains (j ∷ trail) k → ⊥) ⊎ TrailTo (link_at links k).to) [
        | inl same ↦ inr (record { trail = j ∷ trail; back = (ap (λ i. (link_at links i).to) (sym same), back.1); apart = apart; each = each })
        | inr differs ↦
            elim (cut_at k (link_at links j).from trail back.1 apart.1 each.1) as (λ _. (Contains (j ∷ trail) k → ⊥) ⊎ TrailTo (link_at links k).to) [
              | inl none ↦ inl (λ h. elim (found_at j k trail h.0 h.1 h.2) as (λ _. ⊥) [ inl e ↦ differs (sym e) | inr rest ↦ none rest ])
              | inr found ↦ inr found
            ]
      ]

  one_on : (k : ℕ) → Q k → TrailTo (link_at links k).from → TrailTo (link_at links k).to
  one_on k q t =
      elim (cut_at k (link_at links k).from t.trail t.back t.apart t.each) as (λ _. TrailTo (link_at links k).to) [
        | inl none ↦ record { trail = k ∷ t.trail; back = (refl, t.back); apart = (none, t.apart); each = (q, t.each) }
        | inr found ↦ found
      ]

  trail_to : (may : ℕ → Bool) (m part : ℕ) → ((k : ℕ) → k < m → may k ≡ true → Q k) → reaches links may m root part ≡ true → TrailTo part
  trail_to may m part known h =
      reaches_least links may TrailTo m (λ k lt taken t. one_on k (known k lt taken) t) root part (record { trail = []; back = refl; apart = tt; each = tt }) h

-- ---- a unit more, and a unit less, along a trail

module _ (old trail : List ℕ) (apart : (p q : ℕ) → p < q → q < length trail → slice_index trail p ≡ slice_index trail q → ⊥) where
  module _ (half : ℕ) (halves : half + half ≡ length old) (within : (place : ℕ) → place < length trail → slice_index trail place < length old) where
    push_next : (now : List ℕ) (index : ℕ) → index < length trail → Pushing old now trail 1 index → (after : List ℕ) × Pushing old after trail 1 (index + 1)
    push_next now index lt so_far =
        let j : ℕ = slice_index trail index in
        let t : ℕ = reverse_place half j in
        let places = so_far.places in
        let j_in = within index lt in
        let pair : AreReverse half j t = reverse_pair half j (omega arith) in
        let other : t ≡ j → ⊥ =
        elim pair as (λ _. t ≡ j → ⊥) [ inl forward ↦ let a = forward.0 in let b = forward.1 in λ e. omega arith | inr back ↦ let a = back.0 in let b = back.1 in λ e. omega arith ] in
        let t_in : t < length now =
        elim pair as (λ _. t < length now) [ inl forward ↦ let a = forward.0 in let b = forward.1 in omega arith | inr back ↦ let a = back.0 in let b = back.1 in omega arith ] in
        let enough = so_far.left index (omega arith) lt in
        let first : List ℕ = set now j (slice_index now j - 1) in
        let after : List ℕ = set first t (slice_index first t + 1) in (
          after,
          pushing_more old now after trail 1 index half t so_far lt halves apart
              (length-set first t (slice_index first t + 1) ∙ length-set now j (slice_index now j - 1)) pair (moved_by now j t 1 (omega arith) t_in other enough),
        )

    push_on : (fuel index : ℕ) (now : List ℕ) → length trail ≤ fuel + index → Pushing old now trail 1 index → (after : List ℕ) × IsPushed old after trail 1
    push_on zero index now le so_far = (now, pushed old now trail 1 index (omega arith) so_far)
    push_on (suc fuel) index now le so_far =
        elim (cases_lt index (length trail)) as (λ _. (after : List ℕ) × IsPushed old after trail 1) [
          | inl lt ↦ let next = push_next now index lt so_far in push_on fuel (index + 1) next.0 (omega arith) next.1
          | inr past ↦ (now, pushed old now trail 1 index past so_far)
        ]

  module _ (within : (place : ℕ) → place < length trail → slice_index trail place < length old) where
    take_next : (now : List ℕ) (index : ℕ) → index < length trail → Taking old now trail 1 index → (after : List ℕ) × Taking old after trail 1 (index + 1)
    take_next now index lt so_far =
        let k : ℕ = slice_index trail index in
        let less : ℕ = slice_index now k - 1 in
        let places = so_far.places in
        let k_in = within index lt in
        let inside : k < length now = omega arith in
        let enough = so_far.left index (omega arith) lt in
        let here_ = get_or-set_same now k less 0 inside in (
          set now k less,
          taking_more old now (set now k less) trail 1 index so_far lt apart (length-set now k less) (omega arith) (λ p differs. get_or-set_other now k p less 0 differs),
        )

    take_on : (fuel index : ℕ) (now : List ℕ) → length trail ≤ fuel + index → Taking old now trail 1 index → (after : List ℕ) × IsTaken old after trail 1
    take_on zero index now le so_far = (now, all_taken old now trail 1 index (omega arith) so_far)
    take_on (suc fuel) index now le so_far =
        elim (cases_lt index (length trail)) as (λ _. (after : List ℕ) × IsTaken old after trail 1) [
          | inl lt ↦ let next = take_next now index lt so_far in take_on fuel (index + 1) next.0 (omega arith) next.1
          | inr past ↦ (now, all_taken old now trail 1 index past so_far)
        ]

-- ---- lists of answers

table : {A : Type 0} → ℕ → (ℕ → A) → List A
table zero f = []
table (suc count) f = f 0 ∷ table count (λ v. f (suc v))

table_length : {A : Type 0} (count : ℕ) (f : ℕ → A) → length (table count f) ≡ count
unfolding table
table_length zero f = refl
table_length (suc count) f = ap suc (table_length count (λ v. f (suc v)))

table_get : {A : Type 0} (count : ℕ) (f : ℕ → A) (v : ℕ) → v < count → slice_get (table count f) v ≡ Some (f v)
unfolding table
table_get zero f v lt = absurd (omega arith)
table_get (suc count) f zero lt = refl
table_get (suc count) f (suc v) lt = table_get count (λ v. f (suc v)) v (omega arith)

table_at : (count : ℕ) (f : ℕ → Bool) (v : ℕ) → v < count → at_place (table count f) v ≡ f v
table_at count f v lt = ap (λ o. unwrap_or o false) (table_get count f v lt)

amounts_at : (count : ℕ) (f : ℕ → ℕ) (v : ℕ) → v < count → slice_index (table count f) v ≡ f v
amounts_at count f v lt = get_or_from_slice_get (table count f) v (f v) 0 (table_get count f v lt)

-- nothing flows yet
module _ (n : Network) where
  abbrev first_of : ℕ → ℕ
  first_of k = cond (nat_lt k (link_count n)) (full_capacity n k) 0

  empty : List ℕ
  empty = table (link_count n + link_count n) first_of

  empty_is : HasCapacities n (link_count n) empty
  unfolding empty
  empty_is = record {
    places = table_length (link_count n + link_count n) first_of;
    all = λ k lt. amounts_at (link_count n + link_count n) first_of k (omega arith) ∙ ap (λ b. cond b (full_capacity n k) 0) (lt-ltb k (link_count n) lt);
    none = λ k lt.
        amounts_at (link_count n + link_count n) first_of (k + link_count n) (omega arith)
        ∙ ap (λ b. cond b (full_capacity n (k + link_count n)) 0) (le-ltb (k + link_count n) (link_count n) (omega arith));
  }

kept : (b c : Bool) (x : ℕ) → (b ≡ true → 0 < x → c ≡ true) → amount_if b x ≤ amount_if c x + 0
kept false c x on = omega arith
kept true true x on = omega arith
kept true false x on = elim (cases_lt 0 x) as (λ _. x ≤ 0 + 0) [ inl some ↦ absurd (false≢true (on refl some)) | inr none ↦ omega arith ]

module _ (n : Network) (range : InRange n) where
  abbrev both : List Link
  both = both_ways (links_of n)

  abbrev root : ℕ
  root = in_part (size n)

  abbrev end : ℕ
  end = out_part (size n)

  -- ---- a flow to which no trail adds

  module _ (capacities : List ℕ) where
    abbrev may_take : ℕ → Bool
    may_take k = nat_lt 0 (slice_index capacities k)

    abbrev marked : ℕ → Bool
    marked part = reaches both may_take (length both) root part

    closed : IsClosed both capacities marked
    closed k lt some there = reaches_on both may_take (length both) root k lt (lt-ltb 0 (slice_index capacities k) some) there

    least : (set : ℕ → Bool) → IsClosed both capacities set → set root ≡ true → (part : ℕ) → marked part ≡ true → set part ≡ true
    least set is begins part h =
        reaches_least both may_take (λ p. set p ≡ true) (length both) (λ k lt taken there. is k lt (ltb-true 0 (slice_index capacities k) taken) there) root part begins h

    abbrev CanTake : ℕ → Type 0
    CanTake k = (k < length both) × (1 ≤ slice_index capacities k)

    more : (a : ℕ) → IsFlow n capacities a → marked end ≡ true → (after : List ℕ) × IsFlow n after (a + 1)
    more a flow there =
        let t = trail_to both CanTake root may_take (length both) end (λ k lt taken. let some = ltb-true 0 (slice_index capacities k) taken in (lt, omega arith)) there in
        let apart = apart_places both CanTake root t.trail t.apart in
        let each = each_place both CanTake root t.trail t.each in
        let count = both_count (links_of n) in
        let places = flow.places in
        let after =
        push_on capacities t.trail apart (link_count n) (sym flow.places) (λ place lt. let below = (each place lt).0 in omega arith) (length t.trail) 0 capacities (omega arith)
        (pushing_begins capacities t.trail 1 (λ place lt. (each place lt).1)) in (
          after.0,
          flow_more n capacities after.0 a 1 t.trail flow after.1 1
              (record { back = t.back; within = λ place lt. (each place lt).0; enough = λ place lt. (each place lt).1; apart = apart; some_capacity = omega arith }),
        )

  record Full : Type 0 where
    capacities : List ℕ
    amount : ℕ
    flow : IsFlow n capacities amount
    last : marked capacities end ≡ false

  module _ (bounded : Meets n (λ v. IsSome (weight_at n v))) where
    fill : (fuel a : ℕ) (capacities : List ℕ) → IsFlow n capacities a → total_weight n < a + fuel → Full
    fill zero a capacities flow lt = let most = at_most_total n capacities a flow range bounded in absurd (omega arith)
    fill (suc fuel) a capacities flow lt =
        elim (cases_Bool (marked capacities end)) as (λ _. Full) [
          | inl there ↦ let next = more capacities a flow there in fill fuel (a + 1) next.0 next.1 (omega arith)
          | inr none ↦ record { capacities = capacities; amount = a; flow = flow; last = none }
        ]

    full : Full
    full = fill (total_weight n + 1) 0 (empty n) (flow_begins n (empty n) (link_count n) refl (empty_is n)) (omega arith)

  -- ---- the walks that it is split into

  module _ (carries : List ℕ) (left : ℕ) (is : IsCarried n carries left) where
    abbrev may_bring : ℕ → Bool
    may_bring k = nat_lt k (link_count n) && nat_lt 0 (slice_index carries k)

    abbrev brought : ℕ → Bool
    brought part = reaches both may_bring (length both) root part

    brought_on : (k : ℕ) → k < link_count n → brought (link_at (links_of n) k).from ≡ true → 0 < slice_index carries k → brought (link_at (links_of n) k).to ≡ true
    brought_on k lt there some =
        let count = both_count (links_of n) in
        let e = forward_at (links_of n) k lt in
        let taken = and_from (nat_lt k (link_count n)) (nat_lt 0 (slice_index carries k)) (lt-ltb k (link_count n) lt) (lt-ltb 0 (slice_index carries k) some) in
        subst (λ l. brought l.to ≡ true) e (reaches_on both may_bring (length both) root k (omega arith) taken (subst (λ l. brought l.from ≡ true) (sym e) there))

    none_left : brought end ≡ false → left ≡ 0
    none_left none =
        let most =
        at_most (links_of n) (link_count n) (λ k. slice_index carries k) root end left brought (λ k. 0) is.flow (reaches_itself both may_bring (length both) root) none
        (λ k lt. kept (brought (link_at (links_of n) k).from) (brought (link_at (links_of n) k).to) (slice_index carries k) (brought_on k lt)) in
        let nothing = sum_none (link_count n) (λ k. 0) (λ k lt. refl) in
        omega arith

    abbrev CanBring : ℕ → Type 0
    CanBring k = (k < link_count n) × (1 ≤ slice_index carries k)

    can_bring : (k : ℕ) → may_bring k ≡ true → CanBring k
    can_bring k taken =
        let parts = and_parts (nat_lt k (link_count n)) (nat_lt 0 (slice_index carries k)) taken in
        let some = ltb-true 0 (slice_index carries k) parts.1 in
        (ltb-true k (link_count n) parts.0, omega arith)

    walk : brought end ≡ true → 0 < left → (path : NodePath) × (after : List ℕ) × (path.amount ≡ 1) × IsPathTaken n carries after left path
    walk there some =
        let t = trail_to both CanBring root may_bring (length both) end (λ k lt taken. can_bring k taken) there in
        let apart = apart_places both CanBring root t.trail t.apart in
        let each = each_place both CanBring root t.trail t.each in
        let places = is.places in
        let count = both_count (links_of n) in
        let after = take_on carries t.trail apart (λ place lt. let below = (each place lt).0 in omega arith) (length t.trail) 0 carries (omega arith) (taking_begins carries t.trail 1 (λ place lt. (each place lt).1)) in
        let path : NodePath = record { nodes = reverse (filter_map (entered both) t.trail); amount = 1 } in
        let on : IsTrail both carries root end t.trail 1 =
        record { back = t.back; within = λ place lt. let below = (each place lt).0 in omega arith; enough = λ place lt. (each place lt).1; apart = apart; some_capacity = omega arith } in
        (path, after.0, refl, path_taken n range carries left is t.trail 1 on (λ place lt. (each place lt).0) path after.0 (omega arith) (omega arith) after.1 refl)

    next_walk : 0 < left → (path : NodePath) × (after : List ℕ) × (path.amount ≡ 1) × IsPathTaken n carries after left path
    next_walk some =
        elim (cases_Bool (brought end)) as (λ _. (path : NodePath) × (after : List ℕ) × (path.amount ≡ 1) × IsPathTaken n carries after left path) [
          | inl there ↦ walk there some
          | inr none ↦ let nothing = none_left none in absurd (omega arith)
        ]

  module _ (first : List ℕ) (total : ℕ) where
    abbrev IsSplit : Type 0
    IsSplit = (all : List NodePath) × (rest : List ℕ) × Splitting n first total all rest 0

    split_on : (fuel : ℕ) (paths : List NodePath) (carries : List ℕ) (left : ℕ) → left ≤ fuel → Splitting n first total paths carries left → IsSplit
    split_on zero paths carries left le so_far = let none : left ≡ 0 = omega arith in (paths, carries, subst (Splitting n first total paths carries) none so_far)
    split_on (suc fuel) paths carries left le so_far =
        elim (cases_lt 0 left) as (λ _. IsSplit) [
          | inl some ↦
              let next = next_walk carries left so_far.rest some in
              let one = next.2 in
              split_on fuel (paths ++ next.0 ∷ []) next.1 (left - next.0.amount) (omega arith) (splitting_more n first total paths carries left so_far next.0 next.1 next.3)
          | inr past ↦ let none : left ≡ 0 = omega arith in (paths, carries, subst (Splitting n first total paths carries) none so_far)
        ]

-- ---- the whole

module _ (n : Network) (range : InRange n) (bounded : Meets n (λ v. IsSome (weight_at n v))) (small : total_weight n < 2 ^ 63) where
  found : Full n range
  found = full n range bounded

  abbrev there : ℕ → Bool
  there = marked n range found.capacities

  carried_at : (half k : ℕ) → half + half ≡ length found.capacities → slice_index (drop (link_count n) found.capacities) k ≡ slice_index found.capacities (k + half)
  carried_at half k e =
      let places = found.flow.places in
      let same : link_count n + k ≡ k + half = omega arith in
      get_or-drop (link_count n) found.capacities k 0 ∙ ap (slice_index found.capacities) same

  abbrev carries : List ℕ
  carries = drop (link_count n) found.capacities

  split : IsSplit n range carries found.amount
  split =
      let places = found.flow.places in
      let is = carries_first n found.capacities carries found.amount found.flow (λ half e. omega (arith, places, e, length-drop (link_count n) found.capacities)) (λ half k e lt. carried_at half k e) in
      split_on n range carries found.amount found.amount [] carries found.amount (omega arith) (splitting_begins n carries found.amount is)

  near_in : List Bool
  near_in = table (size n) (λ v. there (in_part v))

  near_out : List Bool
  near_out = table (size n) (λ v. there (out_part v))

  -- a maximum flow with the least cut
  pub some_flow : (r : FlowResult) × IsMaxFlow n r
  unfolding near_in near_out
  some_flow =
      let a = found.amount in
      let all = at_most_total n found.capacities a found.flow range bounded in
      let few : a < 2 ^ 63 = omega arith in
      let begins = reaches_itself (both n range) (may_take n range found.capacities) (length (both n range)) (root n range) in
      let ins = table_at (size n) (λ v. there (in_part v)) in
      let outs = table_at (size n) (λ v. there (out_part v)) in
      let in_length = table_length (size n) (λ v. there (in_part v)) in
      let out_length = table_length (size n) (λ v. there (out_part v)) in
      let is_closed = closed n range found.capacities in
      let worth : carried split.0 ≡ a = let sum = split.2.sum in omega arith in (
        record { paths = split.0; cut = record { near_in = near_in; near_out = near_out; weight = a } },
        record {
          paths = split.2.walks;
          loads = λ v w e. load_fits n found.capacities a v w (load split.0 v) found.flow e (λ lt. let less = split.2.loads v lt in let same = carried_at (link_count n) v (sym found.flow.places) in omega arith);
          cut = record {
            cut = is_cut n found.capacities a found.flow range few there begins found.last is_closed near_in near_out in_length out_length ins outs;
            weight = weighs n found.capacities a found.flow range few there begins found.last is_closed near_in near_out in_length out_length ins outs;
            least = λ other is. worth_at_most n found.capacities a found.flow range other is;
            near = near_side n found.capacities a found.flow range few there begins found.last is_closed near_in near_out in_length out_length ins outs (least n range found.capacities);
            nearest = λ other is e.
                lies_near n found.capacities a found.flow range few there begins found.last is_closed near_in near_out in_length out_length ins outs (least n range found.capacities) other is (omega arith);
          };
          weight = worth;
        },
      )
