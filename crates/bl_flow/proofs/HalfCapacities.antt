-- What links can take, as it is kept.
use Rattle.std.proofs.Common.{◌≡◌, ℕ, ◌+◌, ◌-◌, ◌^◌, ◌<◌, ◌≤◌, List, length, refl, sym, ap, subst, ◌∙◌, arith, inl, inr, slice_index, set, length-set, None, slice_get, unwrap_or, replicate}
use Rattle.std.proofs.lemmas.Bool.{cases_eq, cases_lt, lt-ltb, le-ltb}
use Rattle.std.proofs.lemmas.List.{get_or_past, get_or-set_same, get_or-set_other, length-replicate}
use Rattle.std.proofs.lemmas.List.FromFn.{get_or-map-range_with_len, length-map-range_with_len}
use Rattle.bl_flow.specs.declared.network.Network.{Network}
use Rattle.bl_flow.specs.Networks.{size}
use Rattle.bl_flow.specs.Split.{full_capacity}
use Rattle.bl_flow.specs.Flows.{HasCapacities}
use Rattle.bl_flow.specs.Capacities.{capacity_at, both_capacities, AreCarried, Moved, IsMoved}
use Rattle.bl_flow.proofs.Links.{unbounded_behind}
use Rattle.bl_flow.proofs.Phases.{zeros}

pub halves_count : (through carried : List ℕ) → length (both_capacities through carried) ≡ length carried + length carried
halves_count through carried = length-map-range_with_len (capacity_at through carried) 0 (length carried + length carried)

pub capacity_is : (through carried : List ℕ) (k : ℕ) → k < length carried + length carried → slice_index (both_capacities through carried) k ≡ capacity_at through carried k
capacity_is through carried k lt = get_or-map-range_with_len (capacity_at through carried) 0 (length carried + length carried) k k 0 lt (omega arith)

-- through a node, behind the nodes, and back
pub through_is : (through carried : List ℕ) (k : ℕ) → k < length carried → k < length through → capacity_at through carried k ≡ slice_index through k
through_is through carried k lt inside = rw (lt-ltb k (length carried) lt, lt-ltb k (length through) inside) refl

pub behind_is : (through carried : List ℕ) (k : ℕ) → k < length carried → length through ≤ k → capacity_at through carried k ≡ 2 ^ 63 - slice_index carried k
behind_is through carried k lt behind = rw (lt-ltb k (length carried) lt, le-ltb k (length through) behind) refl

pub back_is : (through carried : List ℕ) (k : ℕ) → length carried ≤ k → capacity_at through carried k ≡ slice_index carried (k - length carried)
back_is through carried k past = rw (le-ltb k (length carried) past) refl

-- a link carries so much more, and can take so much less
pub record Shifted (through carried through_now now : List ℕ) (j d : ℕ) : Type 0 where
  pub nodes : length through_now ≡ length through
  pub places : length now ≡ length carried
  pub more : slice_index now j ≡ slice_index carried j + d
  pub less : capacity_at through_now now j + d ≡ capacity_at through carried j
  pub through_others : (k : ℕ) → (k ≡ j → ⊥) → slice_index through_now k ≡ slice_index through k
  pub others : (k : ℕ) → (k ≡ j → ⊥) → slice_index now k ≡ slice_index carried k

module _ (through carried through_now now : List ℕ) (j d : ℕ) (shifted : Shifted through carried through_now now j d) (lt : j < length carried) where
  others_same : (p : ℕ) → (p ≡ j → ⊥) → (p ≡ j + length carried → ⊥) → slice_index (both_capacities through_now now) p ≡ slice_index (both_capacities through carried) p
  others_same p not_j not_t =
      let places = shifted.places in let nodes = shifted.nodes in
      elim (cases_lt p (length carried + length carried)) as (λ _. slice_index (both_capacities through_now now) p ≡ slice_index (both_capacities through carried) p) [
        | inr past ↦
            let a = halves_count through carried in let b = halves_count through_now now in
            get_or_past (both_capacities through_now now) p 0 (omega arith) ∙ sym (get_or_past (both_capacities through carried) p 0 (omega arith))
        | inl inside ↦
            let a = capacity_is through carried p inside in let b = capacity_is through_now now p (omega arith) in
            elim (cases_lt p (length carried)) as (λ _. slice_index (both_capacities through_now now) p ≡ slice_index (both_capacities through carried) p) [
              | inr back ↦
                  let c = back_is through carried p back in let e = back_is through_now now p (omega arith) in
                  let same : p - length now ≡ p - length carried = omega arith in
                  b ∙ e ∙ ap (slice_index now) same ∙ shifted.others (p - length carried) (λ q. not_t (omega arith)) ∙ sym (a ∙ c)
              | inl forth ↦
                  elim (cases_lt p (length through)) as (λ _. slice_index (both_capacities through_now now) p ≡ slice_index (both_capacities through carried) p) [
                    | inl low ↦ b ∙ through_is through_now now p (omega arith) (omega arith) ∙ shifted.through_others p not_j ∙ sym (a ∙ through_is through carried p forth low)
                    | inr high ↦
                        b ∙ behind_is through_now now p (omega arith) (omega arith) ∙ ap (λ x. 2 ^ 63 - x) (shifted.others p not_j) ∙ sym (a ∙ behind_is through carried p forth high)
                  ]
            ]
      ]

  here_old : slice_index (both_capacities through carried) j ≡ capacity_at through carried j
  here_old = capacity_is through carried j (omega arith)

  here_new : slice_index (both_capacities through_now now) j ≡ capacity_at through_now now j
  here_new = let places = shifted.places in capacity_is through_now now j (omega arith)

  back_old : slice_index (both_capacities through carried) (j + length carried) ≡ slice_index carried j
  back_old =
      let same : j + length carried - length carried ≡ j = omega arith in
      capacity_is through carried (j + length carried) (omega arith) ∙ back_is through carried (j + length carried) (omega arith) ∙ ap (slice_index carried) same

  back_new : slice_index (both_capacities through_now now) (j + length carried) ≡ slice_index now j
  back_new =
      let places = shifted.places in
      let same : j + length carried - length now ≡ j = omega arith in
      capacity_is through_now now (j + length carried) (omega arith) ∙ back_is through_now now (j + length carried) (omega arith) ∙ ap (slice_index now) same

  -- forth, and where the later one is the first
  pub moved_forth : Moved (both_capacities through carried) (both_capacities through_now now) j (j + length carried) d
  moved_forth = record {
    here_ = let a = here_old in let b = here_new in let c = shifted.less in omega arith;
    there = let a = back_old in let b = back_new in let c = shifted.more in omega arith;
    others = others_same;
  }

  pub moved_back : Moved (both_capacities through_now now) (both_capacities through carried) (j + length carried) j d
  moved_back = record {
    here_ = let a = back_old in let b = back_new in let c = shifted.more in omega arith;
    there = let a = here_old in let b = here_new in let c = shifted.less in omega arith;
    others = λ p not_t not_j. sym (others_same p not_j not_t);
  }

-- the same of what is seen as a list
module _ (through carried seen : List ℕ) (view : both_capacities through carried ≡ seen) where
  pub seen_count : length seen ≡ length carried + length carried
  seen_count = sym (ap length view) ∙ halves_count through carried

  pub seen_through : (k : ℕ) → k < length carried → k < length through → slice_index seen k ≡ slice_index through k
  seen_through k lt inside = sym (ap (λ l. slice_index l k) view) ∙ capacity_is through carried k (omega arith) ∙ through_is through carried k lt inside

  pub seen_behind : (k : ℕ) → k < length carried → length through ≤ k → slice_index seen k ≡ 2 ^ 63 - slice_index carried k
  seen_behind k lt behind = sym (ap (λ l. slice_index l k) view) ∙ capacity_is through carried k (omega arith) ∙ behind_is through carried k lt behind

  pub seen_back : (k : ℕ) → length carried ≤ k → k < length carried + length carried → slice_index seen k ≡ slice_index carried (k - length carried)
  seen_back k past lt = sym (ap (λ l. slice_index l k) view) ∙ capacity_is through carried k lt ∙ back_is through carried k past

  pub goes_forth : (through_now now : List ℕ) (j d : ℕ) → Shifted through carried through_now now j d → j < length carried → IsMoved seen (both_capacities through_now now) j d
  goes_forth through_now now j d shifted lt = record {
    places = let places = shifted.places in let count = seen_count in halves_count through_now now ∙ omega arith;
    moved = λ half t e pair.
        let count = seen_count in
        let there : t ≡ j + length carried = elim pair as (λ _. t ≡ j + length carried) [ inl forth ↦ let is = forth.1 in omega arith | inr back ↦ let is = back.1 in absurd (omega arith) ] in
        subst (λ l. Moved l (both_capacities through_now now) j t d) view
        (subst (λ p. Moved (both_capacities through carried) (both_capacities through_now now) j p d) (sym there) (moved_forth through carried through_now now j d shifted lt));
  }

  pub goes_back : (through_now now : List ℕ) (j d link : ℕ) → Shifted through_now now through carried j d → j < length carried → link ≡ j + length carried → IsMoved seen (both_capacities through_now now) link d
  goes_back through_now now j d link shifted lt is = record {
    places = let places = shifted.places in let count = seen_count in halves_count through_now now ∙ omega arith;
    moved = λ half t e pair.
        let count = seen_count in let places = shifted.places in
        let there : t ≡ j = elim pair as (λ _. t ≡ j) [ inl forth ↦ let low = forth.0 in absurd (omega arith) | inr back ↦ let same = back.1 in omega arith ] in
        let at_ : link ≡ j + length now = omega arith in
        subst (λ l. Moved l (both_capacities through_now now) link t d) view
        (subst (λ p. Moved (both_capacities through carried) (both_capacities through_now now) link p d) (sym there)
        (subst (λ p. Moved (both_capacities through carried) (both_capacities through_now now) p j d) (sym at_) (moved_back through_now now through carried j d shifted (omega arith))));
  }

  -- the four ways in which a write lets more flow
  module _ (j d most_now carried_now : ℕ) (lt : j < length carried) (carries : carried_now ≡ slice_index carried j) where
    more_carried : slice_index (set carried j (carried_now + d)) j ≡ slice_index carried j + d
    more_carried = get_or-set_same carried j (carried_now + d) 0 lt ∙ ap (λ x. x + d) carries

    less_carried : d ≤ carried_now → slice_index carried j ≡ slice_index (set carried j (carried_now - d)) j + d
    less_carried le = let same = get_or-set_same carried j (carried_now - d) 0 lt in omega arith

    pub through_forth : j < length through → most_now ≡ slice_index through j → d ≤ most_now → IsMoved seen (both_capacities (set through j (most_now - d)) (set carried j (carried_now + d))) j d
    through_forth inside most le =
        let through_count = length-set through j (most_now - d) in let count = length-set carried j (carried_now + d) in
        goes_forth (set through j (most_now - d)) (set carried j (carried_now + d)) j d
        (record {
          nodes = through_count;
          places = count;
          more = more_carried;
          less =
              let old = through_is through carried j lt inside in
              let new = through_is (set through j (most_now - d)) (set carried j (carried_now + d)) j (omega arith) (omega arith) ∙ get_or-set_same through j (most_now - d) 0 inside in
              omega arith;
          through_others = λ k differs. get_or-set_other through j k (most_now - d) 0 differs;
          others = λ k differs. get_or-set_other carried j k (carried_now + d) 0 differs;
        }) lt

    pub behind_forth : length through ≤ j → carried_now + d ≤ 2 ^ 63 → IsMoved seen (both_capacities through (set carried j (carried_now + d))) j d
    behind_forth behind le =
        let count = length-set carried j (carried_now + d) in
        goes_forth through (set carried j (carried_now + d)) j d
        (record {
          nodes = refl;
          places = count;
          more = more_carried;
          less =
              let old = behind_is through carried j lt behind in
              let new = behind_is through (set carried j (carried_now + d)) j (omega arith) behind in
              let more = more_carried in omega arith;
          through_others = λ k differs. refl;
          others = λ k differs. get_or-set_other carried j k (carried_now + d) 0 differs;
        }) lt

    pub through_back : (link : ℕ) → link ≡ j + length carried → j < length through → most_now ≡ slice_index through j → d ≤ carried_now
        → IsMoved seen (both_capacities (set through j (most_now + d)) (set carried j (carried_now - d))) link d
    through_back link is inside most le =
        let through_count = length-set through j (most_now + d) in let count = length-set carried j (carried_now - d) in
        goes_back (set through j (most_now + d)) (set carried j (carried_now - d)) j d link
        (record {
          nodes = sym through_count;
          places = sym count;
          more = less_carried le;
          less =
              let old = through_is through carried j lt inside in
              let new = through_is (set through j (most_now + d)) (set carried j (carried_now - d)) j (omega arith) (omega arith) ∙ get_or-set_same through j (most_now + d) 0 inside in
              omega arith;
          through_others = λ k differs. sym (get_or-set_other through j k (most_now + d) 0 differs);
          others = λ k differs. sym (get_or-set_other carried j k (carried_now - d) 0 differs);
        }) lt is

    pub behind_back : (link : ℕ) → link ≡ j + length carried → length through ≤ j → d ≤ carried_now → carried_now ≤ 2 ^ 63 → IsMoved seen (both_capacities through (set carried j (carried_now - d))) link d
    behind_back link is behind le fits =
        let count = length-set carried j (carried_now - d) in
        goes_back through (set carried j (carried_now - d)) j d link
        (record {
          nodes = refl;
          places = sym count;
          more = less_carried le;
          less =
              let old = behind_is through carried j lt behind in
              let new = behind_is through (set carried j (carried_now - d)) j (omega arith) behind in
              let less = less_carried le in omega arith;
          through_others = λ k differs. refl;
          others = λ k differs. sym (get_or-set_other carried j k (carried_now - d) 0 differs);
        }) lt is

-- one link that carries another amount, which fits
pub still_carried : (nodes : ℕ) (carried : List ℕ) (j x : ℕ) → AreCarried nodes carried → x ≤ 2 ^ 63 → AreCarried nodes (set carried j x)
still_carried nodes carried j x are fits = record {
  all = let count = length-set carried j x in let all = are.all in omega arith;
  fit = λ k behind.
      elim (cases_eq k j) as (λ _. slice_index (set carried j x) k ≤ 2 ^ 63) [
        | inl e ↦
            elim (cases_lt j (length carried)) as (λ _. slice_index (set carried j x) k ≤ 2 ^ 63) [
              | inl lt ↦ let same = ap (slice_index (set carried j x)) e in let is = get_or-set_same carried j x 0 lt in omega arith
              | inr past ↦ let count = length-set carried j x in let none = get_or_past (set carried j x) k 0 (omega arith) in omega arith
            ]
        | inr differs ↦ let same = get_or-set_other carried j k x 0 differs in let fit = are.fit k behind in omega arith
      ];
}

-- before anything flows
pub begins : (n : Network) (through carried : List ℕ) (links : ℕ) → length through ≡ size n
    → ((v : ℕ) → v < size n → slice_index through v ≡ unwrap_or (unwrap_or (slice_get n.weights v) None) (2 ^ 63)) → carried ≡ replicate links 0 → HasCapacities n links (both_capacities through carried)
begins n through carried links nodes each nothing = record {
  places = halves_count through carried ∙ ap (λ m. m + m) count;
  all = λ k lt.
      let carries = count in
      elim (cases_lt k (length through)) as (λ _. slice_index (both_capacities through carried) k ≡ full_capacity n k) [
        | inl inside ↦ capacity_is through carried k (omega arith) ∙ through_is through carried k (omega arith) inside ∙ each k (omega arith)
        | inr behind ↦
            let is = capacity_is through carried k (omega arith) ∙ behind_is through carried k (omega arith) behind in
            let none = none_carried k in let unbounded = unbounded_behind n k (omega arith) in omega arith
      ];
  none = λ k lt. let carries = count in capacity_is through carried (k + links) (omega arith) ∙ back_is through carried (k + links) (omega arith) ∙ none_carried (k + links - length carried);
}
  where
    count : length carried ≡ links
    count = ap length nothing ∙ length-replicate {A = ℕ} links 0

    none_carried : (k : ℕ) → slice_index carried k ≡ 0
    none_carried k = ap (λ xs. slice_index xs k) nothing ∙ zeros links k
