-- The trail back through what is carried, whose circles are taken off.
use Rattle.std.proofs.Common.{◌≡◌, ℕ, zero, suc, ◌+◌, ◌-◌, ◌*◌, ◌<◌, ◌≤◌, Bool, true, false, cond, List, [], ◌∷◌, ◌++◌, length, take, drop, set, refl, sym, ap, subst, ◌∙◌, arith, ◌⊎◌, inl, inr, slice_index, nat_eq, nat_lt, ◌&&◌, length-append, length-drop}
use Rattle.std.specs.List.{Contains, count_by}
use Rattle.std.proofs.Math.Nat.{mul-suc}
use Rattle.std.proofs.Math.Seq.{drop-cons}
use Rattle.std.proofs.lemmas.Bool.{cases_lt, cases_eq, false≢true, lt-ltb, le-ltb, ltb-true, eqb-true, eq-eqb, ne_eqb, and_parts, and_from}
use Rattle.std.proofs.lemmas.List.{get_or-take, get_or-drop, get_or_append_left, get_or_push, get_or-set_same, get_or-set_other, get_or_past, length-take-le, get_or_default, take-append-drop}
use Rattle.bl_flow.specs.declared.network.Network.{Network}
use Rattle.bl_flow.specs.declared.split.Link.{Link}
use Rattle.bl_flow.specs.Networks.{size}
use Rattle.bl_base.specs.Sums.{sum_below}
use Rattle.bl_flow.specs.Split.{link_at, both_ways, links_of, in_part, out_part}
use Rattle.bl_flow.specs.Flows.{amount_if, Adds, Carries, LeadsBack, IsTaken, IsCarried, link_count}
use Rattle.bl_flow.specs.Searches.{part_row}
use Rattle.bl_flow.specs.Levels.{AreRowsIn}
use Rattle.bl_flow.specs.Traces.{ArePassedOver, Brings, OnTrace, on_trail, AreFed}
use Rattle.bl_base.proofs.Sums.{sum_change, sum_term, sum_tight}
use Rattle.bl_flow.proofs.Amounts.{amount_in, amount_out}
use Rattle.bl_flow.proofs.ReverseLinks.{forward_at}
use Rattle.bl_flow.proofs.BlockingFlows.{leads_more}
use Rattle.bl_flow.proofs.Trails.{once, count_cons}

-- how many parts are not on the trail
abbrev pub absent : Bool → ℕ
absent b = cond b 0 1

abbrev pub off_trail : List Link → List ℕ → List ℕ → ℕ → ℕ
off_trail links places trail parts = sum_below parts (λ p. absent (on_trail links trail places p))

-- a way in two
leads_split : (links : List Link) (front back : List ℕ) (from to : ℕ) → LeadsBack links (front ++ back) from to → (mid : ℕ) × LeadsBack links front mid to × LeadsBack links back from mid
leads_split links [] back from to leads = (to, refl, leads)
leads_split links (k ∷ front) back from to leads = let rest = leads_split links front back from (link_at links k).from leads.1 in (rest.0, (leads.0, rest.1), rest.2)

module _ (links : List Link) (count : ℕ) (carries : List ℕ) (end : ℕ) where
  module _ (places trail : List ℕ) (part : ℕ) where
    pub is_on : on_trail links trail places part ≡ true → (slice_index places part < length trail) × ((link_at links (slice_index trail (slice_index places part))).to ≡ part)
    is_on h =
        let both = and_parts (nat_lt (slice_index places part) (length trail)) (nat_eq (link_at links (slice_index trail (slice_index places part))).to part) h in
        (ltb-true _ _ both.0, eqb-true _ _ both.1)

    module _ (trace : OnTrace links count carries places trail end part) where
      not_on : on_trail links trail places part ≡ false → (place : ℕ) → place < length trail → (link_at links (slice_index trail place)).to ≡ part → ⊥
      not_on h place lt e =
          let there : slice_index places part ≡ place = ap (slice_index places) (sym e) ∙ trace.placed place lt in
          let low = lt-ltb (slice_index places part) (length trail) (omega arith) in
          let same : (link_at links (slice_index trail (slice_index places part))).to ≡ part = ap (λ p. (link_at links (slice_index trail p)).to) there ∙ e in
          false≢true (sym h ∙ and_from _ _ low (eq-eqb _ _ same))

      pub trace_apart : (p q : ℕ) → p < q → q < length trail → slice_index trail p ≡ slice_index trail q → ⊥
      trace_apart p q before lt same =
          let a = trace.placed p (omega arith) in let b = trace.placed q lt in
          let c = ap (λ k. slice_index places (link_at links k).to) same in omega arith

      module _ (fresh : on_trail links trail places part ≡ false) (inside : part < length places) (k : ℕ) (to : (link_at links k).to ≡ part) where
        abbrev after : List ℕ
        after = set places part (length trail)

        longer : length (trail ++ k ∷ []) ≡ length trail + 1
        longer = length-append trail (k ∷ [])

        before_ : (place : ℕ) → place < length trail → slice_index (trail ++ k ∷ []) place ≡ slice_index trail place
        before_ place lt = get_or_append_left trail (k ∷ []) 0 place lt

        last_ : (place : ℕ) → place ≡ length trail → slice_index (trail ++ k ∷ []) place ≡ k
        last_ place e = get_or_push trail k 0 place (sym e)

        here_ : slice_index after part ≡ length trail
        here_ = get_or-set_same places part (length trail) 0 inside

        other_ : (p : ℕ) → (p ≡ part → ⊥) → slice_index after p ≡ slice_index places p
        other_ p apart = get_or-set_other places part p (length trail) 0 apart

        each : (P : ℕ → ℕ → Type 0) → ((place : ℕ) → place < length trail → P place (slice_index trail place)) → P (length trail) k → (place : ℕ) → place < length (trail ++ k ∷ []) → P place (slice_index (trail ++ k ∷ []) place)
        each P old new place lt =
            let c = longer in
            elim (cases_lt place (length trail)) as (λ _. P place (slice_index (trail ++ k ∷ []) place)) [
              | inl low ↦ subst (P place) (sym (before_ place low)) (old place low)
              | inr high ↦ let e : place ≡ length trail = omega arith in subst (P place) (sym (last_ place e)) (subst (λ p. P p k) (sym e) new)
            ]

        pub trace_more : k < count → 0 < slice_index carries k → OnTrace links count carries after (trail ++ k ∷ []) end (link_at links k).from
        trace_more below some = record {
          back = leads_more links trail part end k trace.back to;
          within = each (λ _ j. j < count) trace.within below;
          some = each (λ _ j. 0 < slice_index carries j) trace.some some;
          placed = each (λ place j. slice_index after (link_at links j).to ≡ place)
              (λ place lt. other_ (link_at links (slice_index trail place)).to (not_on fresh place lt) ∙ trace.placed place lt)
              (ap (slice_index after) to ∙ here_);
        }

        -- a part more is on the trail
        on_other : (p : ℕ) → (p ≡ part → ⊥) → on_trail links (trail ++ k ∷ []) after p ≡ on_trail links trail places p
        on_other p apart =
            let c = longer in
            let at_ = other_ p apart in
            elim (cases_lt (slice_index places p) (length trail)) as (λ _. on_trail links (trail ++ k ∷ []) after p ≡ on_trail links trail places p) [
              | inl low ↦
                  let a : nat_lt (slice_index places p) (length (trail ++ k ∷ [])) ≡ nat_lt (slice_index places p) (length trail) = lt-ltb _ _ (omega arith) ∙ sym (lt-ltb _ _ low) in
                  ap (λ q. nat_lt q (length (trail ++ k ∷ [])) && nat_eq (link_at links (slice_index (trail ++ k ∷ []) q)).to p) at_
                  ∙ ap (λ b. b && nat_eq (link_at links (slice_index (trail ++ k ∷ []) (slice_index places p))).to p) a
                  ∙ ap (λ j. nat_lt (slice_index places p) (length trail) && nat_eq (link_at links j).to p) (before_ (slice_index places p) low)
              | inr high ↦
                  let none : on_trail links trail places p ≡ false = ap (λ b. b && nat_eq (link_at links (slice_index trail (slice_index places p))).to p) (le-ltb (slice_index places p) (length trail) high) in
                  elim (cases_eq (slice_index places p) (length trail)) as (λ _. on_trail links (trail ++ k ∷ []) after p ≡ on_trail links trail places p) [
                    | inl e ↦
                        let other : nat_eq (link_at links (slice_index (trail ++ k ∷ []) (slice_index places p))).to p ≡ false =
                        ne_eqb _ _ (λ q. apart (sym q ∙ ap (λ j. (link_at links j).to) (last_ (slice_index places p) e) ∙ to)) in
                        ap (λ q. nat_lt q (length (trail ++ k ∷ [])) && nat_eq (link_at links (slice_index (trail ++ k ∷ []) q)).to p) at_
                        ∙ ap (λ b. nat_lt (slice_index places p) (length (trail ++ k ∷ [])) && b) other ∙ and_false (nat_lt (slice_index places p) (length (trail ++ k ∷ []))) ∙ sym none
                    | inr differs ↦
                        ap (λ q. nat_lt q (length (trail ++ k ∷ [])) && nat_eq (link_at links (slice_index (trail ++ k ∷ []) q)).to p) at_
                        ∙ ap (λ b. b && nat_eq (link_at links (slice_index (trail ++ k ∷ []) (slice_index places p))).to p) (le-ltb (slice_index places p) (length (trail ++ k ∷ [])) (omega arith)) ∙ sym none
                  ]
            ]
          where
            and_false : (b : Bool) → (b && false) ≡ false
            and_false true = refl
            and_false false = refl

        on_here : on_trail links (trail ++ k ∷ []) after part ≡ true
        on_here =
            let c = longer in let at_ = here_ in
            let low = lt-ltb (slice_index after part) (length (trail ++ k ∷ [])) (omega arith) in
            and_from _ _ low (eq-eqb _ _ (ap (λ j. (link_at links j).to) (last_ (slice_index after part) at_) ∙ to))

        pub less_off : (parts : ℕ) → part < parts → off_trail links places trail parts ≡ off_trail links after (trail ++ k ∷ []) parts + 1
        less_off parts lt =
            let a : absent (on_trail links trail places part) ≡ 1 = ap absent fresh in
            let b : absent (on_trail links (trail ++ k ∷ []) after part) ≡ 0 = ap absent on_here in
            sum_change parts (λ p. absent (on_trail links (trail ++ k ∷ []) after p)) (λ p. absent (on_trail links trail places p)) part 1 lt (a ∙ ap (λ x. x + 1) (sym b))
            (λ p below apart. ap absent (sym (on_other p apart)))

      -- the circle from a place on is taken off
      pub trace_cut : (after : List ℕ) (amount : ℕ) → on_trail links trail places part ≡ true → IsTaken carries after (drop (slice_index places part) trail) amount
          → OnTrace links count after places (take (slice_index places part) trail) end part
      trace_cut after amount on taken = record {
        back = subst (λ p. LeadsBack links (take at_ trail) p end) (sym first ∙ found.1) split.1;
        within = λ place lt. subst (λ k. k < count) (sym (entry place lt)) (trace.within place (shorter place lt));
        some = λ place lt.
            let same = taken.others (slice_index trail place) (λ q below e.
            let c = rest in
            trace_apart place (at_ + q) (let l = low place lt in omega arith) (omega arith) (sym e ∙ get_or-drop at_ trail q 0)) in
            let old = trace.some place (shorter place lt) in
            subst (λ k. 0 < slice_index after k) (sym (entry place lt)) (omega arith);
        placed = λ place lt. ap (λ k. slice_index places (link_at links k).to) (entry place lt) ∙ trace.placed place (shorter place lt);
      }
        where
          at_ : ℕ
          at_ = slice_index places part

          found : (at_ < length trail) × ((link_at links (slice_index trail at_)).to ≡ part)
          found = is_on on

          size_ : length (take at_ trail) ≡ at_
          size_ = let lt = found.0 in length-take-le at_ trail (omega arith)

          rest : length (drop at_ trail) ≡ length trail - at_
          rest = length-drop at_ trail

          low : (place : ℕ) → place < length (take at_ trail) → place < at_
          low place lt = let s = size_ in omega arith

          shorter : (place : ℕ) → place < length (take at_ trail) → place < length trail
          shorter place lt = let s = size_ in let l = found.0 in omega arith

          entry : (place : ℕ) → place < length (take at_ trail) → slice_index (take at_ trail) place ≡ slice_index trail place
          entry place lt = get_or-take at_ trail place 0 (low place lt)

          split : (mid : ℕ) × LeadsBack links (take at_ trail) mid end × LeadsBack links (drop at_ trail) part mid
          split = leads_split links (take at_ trail) (drop at_ trail) part end (subst (λ w. LeadsBack links w part end) (sym (take-append-drop at_ trail)) trace.back)

          first : (link_at links (slice_index trail at_)).to ≡ split.0
          first = (subst (λ w. LeadsBack links w part split.0) (drop-cons trail at_ 0 found.0) split.2).0

      pub circle_back : on_trail links trail places part ≡ true → LeadsBack links (drop (slice_index places part) trail) part part
      circle_back on =
          let found = is_on on in
          let split = leads_split links (take (slice_index places part) trail) (drop (slice_index places part) trail) part end (subst (λ w. LeadsBack links w part end) (sym (take-append-drop (slice_index places part) trail)) trace.back) in
          let first : (link_at links (slice_index trail (slice_index places part))).to ≡ split.0 = (subst (λ w. LeadsBack links w part split.0) (drop-cons trail (slice_index places part) 0 found.0) split.2).0 in
          subst (λ p. LeadsBack links (drop (slice_index places part) trail) part p) (sym first ∙ found.1) split.2

-- a circle less carries as much
pub carries_circle : (links : List Link) (m : ℕ) (old new : ℕ → ℕ) (x y a p d : ℕ) → Carries links m old x y a → Adds links m new old p p d → Carries links m new x y a
carries_circle links m old new x y a p d carries adds = λ set.
    let one = carries set in
    let other = adds set in
    omega arith

-- a sum that isn't 0 has a term that isn't
pub sum_some : (m : ℕ) (g : ℕ → ℕ) → 0 < sum_below m g → (k : ℕ) × (k < m) × (0 < g k)
sum_some zero g some = absurd (omega arith)
sum_some (suc m) g some =
    elim (cases_lt 0 (g m)) as (λ _. (k : ℕ) × (k < suc m) × (0 < g k)) [
      | inl last ↦ (m, omega arith, last)
      | inr none ↦ let rest = sum_some m g (omega arith) in let lt = rest.1 in (rest.0, omega arith, rest.2)
    ]

amount_some : (b : Bool) (x : ℕ) → 0 < amount_if b x → (b ≡ true) × (0 < x)
amount_some true x lt = (refl, lt)
amount_some false x lt = absurd (omega arith)

-- what a flow brings to a part comes by a link
pub are_fed : (n : Network) (carries : List ℕ) (left : ℕ) → IsCarried n carries left → 0 < left → AreFed (both_ways (links_of n)) (link_count n) carries (in_part (size n)) (out_part (size n))
are_fed n carries left is some part apart why =
    let there = sum_some (link_count n) (λ k. amount_if (test (link_at (links_of n) k).to) (slice_index carries k)) enough in
    let both = amount_some (test (link_at (links_of n) there.0).to) (slice_index carries there.0) there.2 in
    (there.0, there.1, ap (λ l. l.to) (forward_at (links_of n) there.0 there.1) ∙ eqb-true _ _ both.0, both.1)
  where
    test : ℕ → Bool
    test p = nat_eq p part

    enough : 0 < sum_below (link_count n) (λ k. amount_if (test (link_at (links_of n) k).to) (slice_index carries k))
    enough =
        let balance = is.flow test in
        let none : amount_if (test (in_part (size n))) left ≡ 0 = amount_out (test (in_part (size n))) left (ne_eqb (in_part (size n)) part (λ e. apart (sym e))) in
        elim why as (λ _. 0 < sum_below (link_count n) (λ k. amount_if (test (link_at (links_of n) k).to) (slice_index carries k))) [
          | inl e ↦
              let all : amount_if (test (out_part (size n))) left ≡ left = amount_in (test (out_part (size n))) left (eq-eqb (out_part (size n)) part (sym e)) in
              omega arith
          | inr k ↦
              let from : (link_at (links_of n) k.0).from ≡ part = ap (λ l. l.from) (sym (forward_at (links_of n) k.0 k.1)) ∙ k.2 in
              let here_ : amount_if (test (link_at (links_of n) k.0).from) (slice_index carries k.0) ≡ slice_index carries k.0 = amount_in (test (link_at (links_of n) k.0).from) (slice_index carries k.0) (eq-eqb _ _ from) in
              let term = sum_term (link_count n) (λ j. amount_if (test (link_at (links_of n) j).from) (slice_index carries j)) k.0 k.1 in
              let carries_ = k.3 in
              omega arith
        ]

module _ (carries : List ℕ) (rows : List (List ℕ)) where
  -- where a part's row brings something, its pointer isn't past it
  pub not_past : (passed : List ℕ) (part : ℕ) → ArePassedOver carries rows passed → Brings carries (part_row rows part) → slice_index passed part < length (part_row rows part)
  not_past passed part over brings =
      elim (cases_lt brings.place (slice_index passed part)) as (λ _. slice_index passed part < length (part_row rows part)) [
        | inl before ↦ let none = over part brings.place before brings.within in let some = brings.some in absurd (omega arith)
        | inr behind ↦ let lt = brings.within in omega arith
      ]

  -- a link that carries nothing is passed
  pub passes_over : (passed : List ℕ) (part link next : ℕ) → ArePassedOver carries rows passed → part < length passed → slice_index (part_row rows part) (slice_index passed part) ≡ link
      → (0 < slice_index carries link → ⊥) → next ≡ slice_index passed part + 1 → ArePassedOver carries rows (set passed part next)
  passes_over passed part link next over inside is none e p place below lt =
      elim (cases_eq p part) as (λ _. slice_index carries (slice_index (part_row rows p) place) ≡ 0) [
        | inl same ↦
            let here_ : slice_index (set passed part next) p ≡ next = ap (slice_index (set passed part next)) same ∙ get_or-set_same passed part next 0 inside in
            elim (cases_lt place (slice_index passed part)) as (λ _. slice_index carries (slice_index (part_row rows p) place) ≡ 0) [
              | inl before ↦ over p place (subst (λ q. place < slice_index passed q) (sym same) before) lt
              | inr behind ↦
                  let last : place ≡ slice_index passed part = omega arith in
                  let entry : slice_index (part_row rows p) place ≡ link = ap (λ q. slice_index (part_row rows q) place) same ∙ ap (slice_index (part_row rows part)) last ∙ is in
                  nothing (slice_index carries (slice_index (part_row rows p) place)) (λ some. none (subst (λ k. 0 < slice_index carries k) entry some))
            ]
        | inr other ↦ over p place (subst (λ q. place < q) (get_or-set_other passed part p next 0 other) below) lt
      ]
    where
      nothing : (x : ℕ) → (0 < x → ⊥) → x ≡ 0
      nothing x never = elim (cases_lt 0 x) as (λ _. x ≡ 0) [ inl some ↦ absurd (never some) | inr le ↦ omega arith ]

  pub over_less : (after passed : List ℕ) → ((k : ℕ) → slice_index after k ≤ slice_index carries k) → ArePassedOver carries rows passed → ArePassedOver after rows passed
  over_less after passed less over part place below lt =
      let none = over part place below lt in let le = less (slice_index (part_row rows part) place) in omega arith

  -- a link that carries something is one of them
  pub link_carries : (k : ℕ) → 0 < slice_index carries k → k < length carries
  link_carries k some =
      elim (cases_lt k (length carries)) as (λ _. k < length carries) [
        | inl lt ↦ lt
        | inr past ↦ let none = get_or_past carries k 0 past in absurd (omega arith)
      ]

-- what feeds a part is in its row
pub brings : (links : List Link) (count : ℕ) (carries : List ℕ) (rows : List (List ℕ)) (root end part : ℕ) → AreRowsIn links rows → count ≤ length links → AreFed links count carries root end → (part ≡ root → ⊥)
    → (places trail : List ℕ) → OnTrace links count carries places trail end part → Brings carries (part_row rows part)
brings links count carries rows root end part hold most fed apart places trail trace =
    let k = fed part apart (ends_with trail trace.back trace.within trace.some) in
    let lt = k.1 in
    let there : Contains (part_row rows part) k.0 = subst (λ p. Contains (part_row rows p) k.0) k.2 (hold.full k.0 (omega arith)) in
    let e : slice_index (part_row rows part) there.0 ≡ k.0 = get_or_default (part_row rows part) there.0 0 k.0 there.1 ∙ there.2 in
    record { place = there.0; within = there.1; some = subst (λ j. 0 < slice_index carries j) (sym e) k.3 }
  where
    ends_with : (w : List ℕ) → LeadsBack links w part end → ((place : ℕ) → place < length w → slice_index w place < count) → ((place : ℕ) → place < length w → 0 < slice_index carries (slice_index w place))
        → (part ≡ end) ⊎ ((k : ℕ) × (k < count) × ((link_at links k).from ≡ part) × (0 < slice_index carries k))
    ends_with w back within some = from_last w end back within some
      where
        from_last : (w : List ℕ) (to : ℕ) → LeadsBack links w part to → ((place : ℕ) → place < length w → slice_index w place < count) → ((place : ℕ) → place < length w → 0 < slice_index carries (slice_index w place))
            → (part ≡ to) ⊎ ((k : ℕ) × (k < count) × ((link_at links k).from ≡ part) × (0 < slice_index carries k))
        from_last [] to back within some = inl (sym back)
        from_last (k ∷ w) to back within some =
            elim (from_last w (link_at links k).from back.1 (λ place lt. within (suc place) (omega arith)) (λ place lt. some (suc place) (omega arith))) as (λ _. (part ≡ to) ⊎ ((j : ℕ) × (j < count) × ((link_at links j).from ≡ part) × (0 < slice_index carries j))) [
              | inl e ↦ inr (k, within 0 (omega arith), sym e, some 0 (omega arith))
              | inr there ↦ inr there
            ]

-- taking off a circle leaves less
pub sum_less : (m : ℕ) (carries after : List ℕ) → ((k : ℕ) → slice_index after k ≤ slice_index carries k) → (j : ℕ) → j < m → slice_index after j < slice_index carries j
    → sum_below m (λ k. slice_index after k) < sum_below m (λ k. slice_index carries k)
sum_less m carries after le j lt less =
    elim (cases_lt (sum_below m (λ k. slice_index after k)) (sum_below m (λ k. slice_index carries k))) as (λ _. sum_below m (λ k. slice_index after k) < sum_below m (λ k. slice_index carries k)) [
      | inl lower ↦ lower
      | inr past ↦ let same = sum_tight m (λ k. slice_index after k) (λ k. slice_index carries k) (λ k _. le k) past j lt in absurd (omega arith)
    ]

-- one link back, in the words of the code
pub steps_back : (links : List Link) (carries : List ℕ) (rows : List (List ℕ)) (end : ℕ) (places trail : List ℕ) (part k len parts : ℕ) → AreRowsIn links rows → OnTrace links (length carries) carries places trail end part
    → on_trail links trail places part ≡ false → part < length places → part < parts → Contains (part_row rows part) k → 0 < slice_index carries k → len ≡ length trail
    → OnTrace links (length carries) carries (set places part len) (trail ++ k ∷ []) end (link_at links k).from
    × (k < length links)
    × (off_trail links (set places part len) (trail ++ k ∷ []) parts < off_trail links places trail parts)
steps_back links carries rows end places trail part k len parts hold trace fresh inside lt there some e =
    let entry : slice_index (part_row rows part) there.0 ≡ k = get_or_default (part_row rows part) there.0 0 k there.1 ∙ there.2 in
    let sound = hold.sound part there.0 there.1 in
    let within : k < length links = subst (λ j. j < length links) entry sound.0 in
    let to : (link_at links k).to ≡ part = subst (λ j. (link_at links j).to ≡ part) entry sound.1 in
    let more = trace_more links (length carries) carries end places trail part trace fresh inside k to (link_carries carries rows k some) some in
    let less = less_off links (length carries) carries end places trail part trace fresh inside k to parts lt in (
      subst (λ l. OnTrace links (length carries) carries (set places part l) (trail ++ k ∷ []) end (link_at links k).from) (sym e) more,
      within,
      subst (λ l. off_trail links (set places part l) (trail ++ k ∷ []) parts < off_trail links places trail parts) (sym e) (omega arith),
    )

-- a circle is taken off what is carried
pub record Dropped (n : Network) (links : List Link) (carries after places trail : List ℕ) (end part left : ℕ) : Type 0 where
  pub carried_ : IsCarried n after left
  pub less : (k : ℕ) → slice_index after k ≤ slice_index carries k
  pub lower : sum_below (link_count n) (λ k. slice_index after k) < sum_below (link_count n) (λ k. slice_index carries k)
  pub trace : OnTrace links (link_count n) after places (take (slice_index places part) trail) end part

pub circle_dropped : (n : Network) (links : List Link) (carries after places trail : List ℕ) (end part left : ℕ) → links ≡ both_ways (links_of n) → IsCarried n carries left → OnTrace links (link_count n) carries places trail end part
    → on_trail links trail places part ≡ true → (amount : ℕ) × (0 < amount) × IsTaken carries after (drop (slice_index places part) trail) amount → Dropped n links carries after places trail end part left
circle_dropped n links carries after places trail end part left both is trace on some = record {
  carried_ = record {
    places = taken.places ∙ is.places;
    flow = carries_circle (links_of n) (link_count n) (λ k. slice_index carries k) (λ k. slice_index after k) (in_part (size n)) (out_part (size n)) left part amount is.flow
        (taken.adds (links_of n) part part within (subst (λ l. LeadsBack l (drop at_ trail) part part) both (circle_back links (link_count n) carries end places trail part trace on)));
  };
  less = le;
  lower = sum_less (link_count n) carries after le first (trace.within at_ found.0) here_;
  trace = trace_cut links (link_count n) carries end places trail part trace after amount on taken;
}
  where
    amount : ℕ
    amount = some.0

    taken : IsTaken carries after (drop (slice_index places part) trail) amount
    taken = some.2

    at_ : ℕ
    at_ = slice_index places part

    first : ℕ
    first = slice_index trail at_

    found : (at_ < length trail) × ((link_at links first).to ≡ part)
    found = is_on links (link_count n) carries end places trail part on

    within : (place : ℕ) → place < length (drop at_ trail) → slice_index (drop at_ trail) place < link_count n
    within place lt = let c = length-drop at_ trail in subst (λ k. k < link_count n) (sym (get_or-drop at_ trail place 0)) (trace.within (at_ + place) (omega arith))

    le : (k : ℕ) → slice_index after k ≤ slice_index carries k
    le k = let sum = taken.less k in omega arith

    here_ : slice_index after first < slice_index carries first
    here_ =
        let sum = taken.less first in
        let open_ : count_by (λ j. nat_eq j first) (drop at_ trail) ≡ suc (count_by (λ j. nat_eq j first) (drop (suc at_) trail)) =
        ap (count_by (λ j. nat_eq j first)) (drop-cons trail at_ 0 found.0) ∙ count_cons (λ j. nat_eq j first) first (drop (suc at_) trail) ∙ ap (λ b. once b + count_by (λ j. nat_eq j first) (drop (suc at_) trail)) (eq-eqb first first refl) ∙ omega arith in
        let product = ap (λ c. amount * c) open_ ∙ mul-suc amount (count_by (λ j. nat_eq j first) (drop (suc at_) trail)) in
        let more = some.1 in
        omega arith
