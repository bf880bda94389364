-- A flow in the links is a lawful flow of the residual network, of the same amount.
use Rattle.std.proofs.Common.{◌≡◌, ℕ, zero, suc, ◌+◌, ◌-◌, ◌^◌, ◌<◌, ◌≤◌, List, length, refl, sym, ap, subst, ◌∙◌, arith, inl, inr, slice_index, nat_eq, drop, map, length-append}
use Rattle.std.specs.List.{Contains}
use Rattle.std.specs.Prelude.{if◌then◌else◌}
use Rattle.std.proofs.lemmas.Bool.{cases_eq, eq-eqb, ne_eqb}
use Rattle.std.proofs.lemmas.List.{length-map, length-drop, length-take-le}
use Rattle.std.proofs.lemmas.List.Elements.{All-contains}
use Rattle.bl_base.specs.Sums.{sum_below}
use Rattle.bl_base.proofs.Sums.{sum_same, sum_none, sum_plus, sum_change}
use Rattle.bl_flow.specs.declared.network.Network.{Network}
use Rattle.bl_flow.specs.declared.split.Link.{Link}
use Rattle.bl_flow.specs.Networks.{size, InRange}
use Rattle.bl_flow.specs.Split.{in_part, out_part, arc_link, links_of, link_at}
use Rattle.bl_flow.specs.Flows.{amount_if, link_count, carried_by, IsFlow}
use Rattle.bl_flow.specs.Residuals.{Loaded, loaded_by, arc_at, brought, taken_away, IsLawful, amount_of}
use Rattle.bl_flow.proofs.Amounts.{amount_in, amount_out}
use Rattle.bl_flow.proofs.Links.{node_at, count_of}
use Rattle.bl_flow.proofs.FlowBounds.{load_fits}
use Rattle.bl_flow.proofs.Residuals.{borders, arc_link_at, IsBehind, to_start, from_end, behind_at, KindAt, is_node, is_arc, is_behind, kind_at, load_is, carried_is, arc_ends}

-- a sum in two
pub sum_split : (m k : ℕ) (g : ℕ → ℕ) → sum_below (m + k) g ≡ sum_below m g + sum_below k (λ j. g (m + j))
sum_split m zero g = let e : m + 0 ≡ m = omega arith in ap (λ x. sum_below x g) e ∙ omega arith
sum_split m (suc k) g =
    let step : m + suc k ≡ suc (m + k) = omega arith in
    let rest = sum_split m k g in
    ap (λ x. sum_below x g) step ∙ omega arith

-- a sum of sums, the other way round
pub sum_swap : (m k : ℕ) (h : ℕ → ℕ → ℕ) → sum_below m (λ v. sum_below k (h v)) ≡ sum_below k (λ j. sum_below m (λ v. h v j))
sum_swap m zero h = sum_none m (λ v. 0) (λ v lt. refl)
sum_swap m (suc k) h = let rest = sum_swap m k h in let both = sum_plus m (λ v. sum_below k (h v)) (λ v. h v k) in omega arith

-- a sum with one term
pub sum_single : (m : ℕ) (g : ℕ → ℕ) (v : ℕ) → v < m → ((k : ℕ) → k < m → (k ≡ v → ⊥) → g k ≡ 0) → sum_below m g ≡ g v
sum_single m g v lt none =
    let one = sum_change m (λ k. 0) g v (g v) lt (omega arith) none in
    let nothing = sum_none m (λ k. 0) (λ k below. refl) in
    omega arith

-- two numbers are the same where two others are
same_test : (x y v w a b : ℕ) → (x ≡ y → v ≡ w) → (v ≡ w → x ≡ y) → a ≡ b → amount_if (nat_eq x y) a ≡ (if nat_eq v w then b else 0)
same_test x y v w a b there back e =
    elim (cases_eq x y) as (λ _. amount_if (nat_eq x y) a ≡ (if nat_eq v w then b else 0)) [
      | inl same ↦ amount_in (nat_eq x y) a (eq-eqb x y same) ∙ e ∙ sym (amount_in (nat_eq v w) b (eq-eqb v w (there same)))
      | inr other ↦ amount_out (nat_eq x y) a (ne_eqb x y other) ∙ sym (amount_out (nat_eq v w) b (ne_eqb v w (λ q. other (back q))))
    ]

module _ (n : Network) (range : InRange n) (capacities : List ℕ) (amount : ℕ) (flow : IsFlow n capacities amount) (small : amount < 2 ^ 63) where
  abbrev r : Loaded
  r = loaded_by n capacities

  abbrev carries : ℕ → ℕ
  carries k = carried_by n capacities k

  abbrev at_link : ℕ → Link
  at_link k = link_at (links_of n) k

  abbrev arcs : ℕ
  arcs = length n.arcs

  -- how many links lie behind those along the arcs
  abbrev rest : ℕ
  rest = link_count n - (size n + arcs)

  all_count : link_count n ≡ size n + (arcs + rest)
  all_count =
      let count = count_of n in
      let mapped = length-map n.arcs arc_link in
      let all = length-append (map arc_link n.arcs) (borders n) in
      omega arith

  behind_place : (j : ℕ) → j < rest → (size n + arcs ≤ size n + (arcs + j)) × (size n + (arcs + j) < link_count n)
  behind_place j lt = let count = all_count in (omega arith, omega arith)

  behind : (j : ℕ) → j < rest → IsBehind n (at_link (size n + (arcs + j)))
  behind j lt = let place = behind_place j lt in behind_at n (size n + (arcs + j)) place.0 place.1

  in_three : (g : ℕ → ℕ) → sum_below (link_count n) g ≡ sum_below (size n) g + (sum_below arcs (λ a. g (size n + a)) + sum_below rest (λ j. g (size n + (arcs + j))))
  in_three g = ap (λ m. sum_below m g) all_count ∙ sum_split (size n) (arcs + rest) g ∙ ap (λ x. sum_below (size n) g + x) (sum_split arcs rest (λ j. g (size n + j)))

  start_lt : (s : ℕ) → Contains n.starts s → s < size n
  start_lt s start = All-contains (λ w. w < size n) n.starts s range.starts start

  nothing_if : (x y a : ℕ) → (x ≡ y → ⊥) → amount_if (nat_eq x y) a ≡ 0
  nothing_if x y a other = amount_out (nat_eq x y) a (ne_eqb x y other)

  -- what comes to a place that is neither before all starts nor behind all ends leaves it
  balance : (p : ℕ) → (in_part (size n) ≡ p → ⊥) → (out_part (size n) ≡ p → ⊥)
      → sum_below (link_count n) (λ k. amount_if (nat_eq (at_link k).from p) (carries k)) ≡ sum_below (link_count n) (λ k. amount_if (nat_eq (at_link k).to p) (carries k))
  balance p not_root not_end =
      let all = flow.carries (λ q. nat_eq q p) in
      let a = nothing_if (in_part (size n)) p amount not_root in
      let b = nothing_if (out_part (size n)) p amount not_end in
      omega arith

  module _ (v : ℕ) (inside : v < size n) where
    -- what begins at a node, and what ends at it
    abbrev begins : ℕ
    begins = sum_below rest (λ j. amount_if (nat_eq (at_link (size n + (arcs + j))).to (in_part v)) (carries (size n + (arcs + j))))

    abbrev ends_here : ℕ
    ends_here = sum_below rest (λ j. amount_if (nat_eq (at_link (size n + (arcs + j))).from (out_part v)) (carries (size n + (arcs + j))))

    out_of_in : (k : ℕ) (link : Link) → KindAt n k link → (k ≡ v → ⊥) → link.from ≡ in_part v → ⊥
    out_of_in k link (is_node lt e) other q = let f : in_part k ≡ in_part v = sym (ap (λ l. l.from) e) ∙ q in other (omega arith)
    out_of_in k link (is_arc a lt place e) other q = let f : out_part (arc_at n a).from ≡ in_part v = sym (ap (λ l. l.from) e) ∙ q in omega arith
    out_of_in k link (is_behind high (to_start s start e)) other q = let f : in_part (size n) ≡ in_part v = sym (ap (λ l. l.from) e) ∙ q in omega arith
    out_of_in k link (is_behind high (from_end s last e)) other q = let f : out_part s ≡ in_part v = sym (ap (λ l. l.from) e) ∙ q in omega arith

    into_out : (k : ℕ) (link : Link) → KindAt n k link → (k ≡ v → ⊥) → link.to ≡ out_part v → ⊥
    into_out k link (is_node lt e) other q = let f : out_part k ≡ out_part v = sym (ap (λ l. l.to) e) ∙ q in other (omega arith)
    into_out k link (is_arc a lt place e) other q = let f : in_part (arc_at n a).to ≡ out_part v = sym (ap (λ l. l.to) e) ∙ q in omega arith
    into_out k link (is_behind high (to_start s start e)) other q = let f : in_part s ≡ out_part v = sym (ap (λ l. l.to) e) ∙ q in omega arith
    into_out k link (is_behind high (from_end s last e)) other q = let f : out_part (size n) ≡ out_part v = sym (ap (λ l. l.to) e) ∙ q in omega arith

    within : v < link_count n
    within = let count = all_count in omega arith

    pub by_arcs : slice_index r.loads v ≡ brought r v + begins
    by_arcs =
        let load = load_is n range capacities amount flow small v inside in
        let node = node_at n v inside in
        let here_ : amount_if (nat_eq (at_link v).from (in_part v)) (carries v) ≡ carries v = amount_in _ (carries v) (eq-eqb _ _ (ap (λ l. l.from) node)) in
        let single = sum_single (link_count n) (λ k. amount_if (nat_eq (at_link k).from (in_part v)) (carries k)) v within
        (λ k lt other. nothing_if (at_link k).from (in_part v) (carries k) (out_of_in k (at_link k) (kind_at n k lt) other)) in
        let all = balance (in_part v) (λ q. omega arith) (λ q. omega arith) in
        let three = in_three (λ k. amount_if (nat_eq (at_link k).to (in_part v)) (carries k)) in
        let none = sum_none (size n) (λ k. amount_if (nat_eq (at_link k).to (in_part v)) (carries k))
        (λ k lt. nothing_if (at_link k).to (in_part v) (carries k) (λ q. let f : out_part k ≡ in_part v = sym (ap (λ l. l.to) (node_at n k lt)) ∙ q in omega arith)) in
        let same = sum_same arcs (λ a. amount_if (nat_eq (at_link (size n + a)).to (in_part v)) (carries (size n + a))) (λ a. (if nat_eq (arc_at n a).to v then slice_index r.carried a else 0))
        (λ a lt.
        let to : (at_link (size n + a)).to ≡ in_part (arc_at n a).to = ap (λ l. l.to) (arc_link_at n a lt) in
        same_test (at_link (size n + a)).to (in_part v) (arc_at n a).to v (carries (size n + a)) (slice_index r.carried a) (λ q. omega arith) (λ q. omega arith) (sym (carried_is n range capacities amount flow small a lt))) in
        omega arith

    pub by_ends : slice_index r.loads v ≡ taken_away r v + ends_here
    by_ends =
        let load = load_is n range capacities amount flow small v inside in
        let node = node_at n v inside in
        let here_ : amount_if (nat_eq (at_link v).to (out_part v)) (carries v) ≡ carries v = amount_in _ (carries v) (eq-eqb _ _ (ap (λ l. l.to) node)) in
        let single = sum_single (link_count n) (λ k. amount_if (nat_eq (at_link k).to (out_part v)) (carries k)) v within
        (λ k lt other. nothing_if (at_link k).to (out_part v) (carries k) (into_out k (at_link k) (kind_at n k lt) other)) in
        let all = balance (out_part v) (λ q. omega arith) (λ q. omega arith) in
        let three = in_three (λ k. amount_if (nat_eq (at_link k).from (out_part v)) (carries k)) in
        let none = sum_none (size n) (λ k. amount_if (nat_eq (at_link k).from (out_part v)) (carries k))
        (λ k lt. nothing_if (at_link k).from (out_part v) (carries k) (λ q. let f : in_part k ≡ out_part v = sym (ap (λ l. l.from) (node_at n k lt)) ∙ q in omega arith)) in
        let same = sum_same arcs (λ a. amount_if (nat_eq (at_link (size n + a)).from (out_part v)) (carries (size n + a))) (λ a. (if nat_eq (arc_at n a).from v then slice_index r.carried a else 0))
        (λ a lt.
        let from : (at_link (size n + a)).from ≡ out_part (arc_at n a).from = ap (λ l. l.from) (arc_link_at n a lt) in
        same_test (at_link (size n + a)).from (out_part v) (arc_at n a).from v (carries (size n + a)) (slice_index r.carried a) (λ q. omega arith) (λ q. omega arith) (sym (carried_is n range capacities amount flow small a lt))) in
        omega arith

    not_from : (link : Link) → IsBehind n link → (Contains n.starts v → ⊥) → link.to ≡ in_part v → ⊥
    not_from link (to_start s start e) none q = let f : in_part s ≡ in_part v = sym (ap (λ l. l.to) e) ∙ q in let same : s ≡ v = omega arith in none (subst (Contains n.starts) same start)
    not_from link (from_end s last e) none q = let f : out_part (size n) ≡ in_part v = sym (ap (λ l. l.to) e) ∙ q in omega arith

    not_to : (link : Link) → IsBehind n link → (Contains n.ends v → ⊥) → link.from ≡ out_part v → ⊥
    not_to link (to_start s start e) none q = let f : in_part (size n) ≡ out_part v = sym (ap (λ l. l.from) e) ∙ q in omega arith
    not_to link (from_end s last e) none q = let f : out_part s ≡ out_part v = sym (ap (λ l. l.from) e) ∙ q in let same : s ≡ v = omega arith in none (subst (Contains n.ends) same last)

    no_start : (Contains n.starts v → ⊥) → begins ≡ 0
    no_start none = sum_none rest (λ j. amount_if (nat_eq (at_link (size n + (arcs + j))).to (in_part v)) (carries (size n + (arcs + j))))
        (λ j lt. nothing_if (at_link (size n + (arcs + j))).to (in_part v) (carries (size n + (arcs + j))) (not_from (at_link (size n + (arcs + j))) (behind j lt) none))

    no_end : (Contains n.ends v → ⊥) → ends_here ≡ 0
    no_end none = sum_none rest (λ j. amount_if (nat_eq (at_link (size n + (arcs + j))).from (out_part v)) (carries (size n + (arcs + j))))
        (λ j lt. nothing_if (at_link (size n + (arcs + j))).from (out_part v) (carries (size n + (arcs + j))) (not_to (at_link (size n + (arcs + j))) (behind j lt) none))

  pub lawful : IsLawful r
  lawful = record {
    arcs = let c = all_count in let p = flow.places in let d = length-drop (link_count n + size n) capacities in length-take-le arcs (drop (link_count n + size n) capacities) (omega arith);
    nodes = let c = all_count in let p = flow.places in let d = length-drop (link_count n) capacities in length-take-le (size n) (drop (link_count n) capacities) (omega arith);
    fits = λ v w e. load_fits n capacities amount v w (slice_index r.loads v) flow e (λ lt. let same = load_is n range capacities amount flow small v lt in omega arith);
    brings = λ v lt. let e = by_arcs v lt in omega arith;
    brings_all = λ v lt none. let e = by_arcs v lt in let zero_ = no_start v lt none in omega arith;
    takes = λ v lt. let e = by_ends v lt in omega arith;
    takes_all = λ v lt none. let e = by_ends v lt in let zero_ = no_end v lt none in omega arith;
  }

  -- what flows begins at the starts
  begun : (link : Link) (c : ℕ) → IsBehind n link → amount_if (nat_eq link.from (in_part (size n))) c ≡ sum_below (size n) (λ v. amount_if (nat_eq link.to (in_part v)) c)
  begun link c (to_start s start e) =
      let from : link.from ≡ in_part (size n) = ap (λ l. l.from) e in
      let to : link.to ≡ in_part s = ap (λ l. l.to) e in
      let whole = amount_in (nat_eq link.from (in_part (size n))) c (eq-eqb _ _ from) in
      let single = sum_single (size n) (λ v. amount_if (nat_eq link.to (in_part v)) c) s (start_lt s start) (λ v lt other. nothing_if link.to (in_part v) c (λ q. other (omega arith))) in
      whole ∙ sym (single ∙ amount_in (nat_eq link.to (in_part s)) c (eq-eqb _ _ to))
  begun link c (from_end s last e) =
      let from : link.from ≡ out_part s = ap (λ l. l.from) e in
      let to : link.to ≡ out_part (size n) = ap (λ l. l.to) e in
      nothing_if link.from (in_part (size n)) c (λ q. omega arith) ∙ sym (sum_none (size n) (λ v. amount_if (nat_eq link.to (in_part v)) c) (λ v lt. nothing_if link.to (in_part v) c (λ q. omega arith)))

  not_into_root : (k : ℕ) (link : Link) → KindAt n k link → link.to ≡ in_part (size n) → ⊥
  not_into_root k link (is_node lt e) q = let f : out_part k ≡ in_part (size n) = sym (ap (λ l. l.to) e) ∙ q in omega arith
  not_into_root k link (is_arc a lt place e) q = let f : in_part (arc_at n a).to ≡ in_part (size n) = sym (ap (λ l. l.to) e) ∙ q in let low = (arc_ends n range capacities amount flow small a lt).1 in omega arith
  not_into_root k link (is_behind high (to_start s start e)) q = let f : in_part s ≡ in_part (size n) = sym (ap (λ l. l.to) e) ∙ q in let low = start_lt s start in omega arith
  not_into_root k link (is_behind high (from_end s last e)) q = let f : out_part (size n) ≡ in_part (size n) = sym (ap (λ l. l.to) e) ∙ q in omega arith

  pub amount_is : amount_of r ≡ amount
  amount_is =
      let all = flow.carries (λ q. nat_eq q (in_part (size n))) in
      let root = amount_in (nat_eq (in_part (size n)) (in_part (size n))) amount (eq-eqb (in_part (size n)) (in_part (size n)) refl) in
      let last = nothing_if (out_part (size n)) (in_part (size n)) amount (λ q. omega arith) in
      let none = sum_none (link_count n) (λ k. amount_if (nat_eq (at_link k).to (in_part (size n))) (carries k)) (λ k lt. nothing_if (at_link k).to (in_part (size n)) (carries k) (not_into_root k (at_link k) (kind_at n k lt))) in
      let three = in_three (λ k. amount_if (nat_eq (at_link k).from (in_part (size n))) (carries k)) in
      let nodes = sum_none (size n) (λ k. amount_if (nat_eq (at_link k).from (in_part (size n))) (carries k))
      (λ k lt. nothing_if (at_link k).from (in_part (size n)) (carries k) (λ q. let f : in_part k ≡ in_part (size n) = sym (ap (λ l. l.from) (node_at n k lt)) ∙ q in omega arith)) in
      let along = sum_none arcs (λ a. amount_if (nat_eq (at_link (size n + a)).from (in_part (size n))) (carries (size n + a)))
      (λ a lt. nothing_if (at_link (size n + a)).from (in_part (size n)) (carries (size n + a)) (λ q. let f : out_part (arc_at n a).from ≡ in_part (size n) = sym (ap (λ l. l.from) (arc_link_at n a lt)) ∙ q in omega arith)) in
      let each = sum_same rest (λ j. amount_if (nat_eq (at_link (size n + (arcs + j))).from (in_part (size n))) (carries (size n + (arcs + j))))
      (λ j. sum_below (size n) (λ v. amount_if (nat_eq (at_link (size n + (arcs + j))).to (in_part v)) (carries (size n + (arcs + j)))))
      (λ j lt. begun (at_link (size n + (arcs + j))) (carries (size n + (arcs + j))) (behind j lt)) in
      let swap = sum_swap (size n) rest (λ v j. amount_if (nat_eq (at_link (size n + (arcs + j))).to (in_part v)) (carries (size n + (arcs + j)))) in
      let loads = sum_same (size n) (λ v. slice_index r.loads v - brought r v) (λ v. sum_below rest (λ j. amount_if (nat_eq (at_link (size n + (arcs + j))).to (in_part v)) (carries (size n + (arcs + j)))))
      (λ v lt. let e = by_arcs v lt in omega arith) in
      omega arith
