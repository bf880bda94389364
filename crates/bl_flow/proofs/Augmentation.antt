-- An amount more or less along a trail, link by link.
use Rattle.std.proofs.Common.{◌≡◌, ℕ, ◌+◌, ◌*◌, ◌<◌, ◌≤◌, List, [], ◌∷◌, length, drop, refl, sym, ap, subst, ◌∙◌, arith, ◌⊎◌, inl, inr, slice_index, add-one, drop-cons, nat_eq, take, ◌-◌, ◌++◌, set, length-set}
use Rattle.std.specs.List.{count_by}
use Rattle.std.proofs.lemmas.Bool.{cases_eq, eq-eqb, ne_eqb}
use Rattle.std.proofs.Math.ListN.{drop_of_length-le}
use Rattle.std.proofs.Math.Nat.{mul-suc}
use Rattle.std.proofs.lemmas.List.{append-nil, take-append-drop, get_or-set_same, get_or-set_other}
use Rattle.std.proofs.lemmas.List.Sums.{count_by_more_yes, count_by_more_no}
use Rattle.bl_flow.specs.declared.split.Link.{Link}
use Rattle.bl_flow.specs.Split.{link_at, both_ways, reverse_link}
use Rattle.bl_flow.specs.Flows.{amount_if, Adds, LeadsBack, IsPushed, IsTaken, AreReverse}
use Rattle.bl_flow.specs.Capacities.{Moved}
use Rattle.bl_base.proofs.Sums.{sum_change}
use Rattle.bl_flow.proofs.Amounts.{adds_then, adds_nothing, amount_plus}
use Rattle.bl_flow.proofs.ReverseLinks.{forward_at, reverse_at}

-- one link carries more
adds_one : (links : List Link) (m : ℕ) (old new : ℕ → ℕ) (k d : ℕ) → k < m → new k ≡ old k + d → ((j : ℕ) → j < m → (j ≡ k → ⊥) → new j ≡ old j)
    → Adds links m old new (link_at links k).from (link_at links k).to d
adds_one links m old new k d lt here_ others = λ set.
    let from_plus = amount_plus (set (link_at links k).from) (old k) d in
    let to_plus = amount_plus (set (link_at links k).to) (old k) d in
    let from_here = ap (amount_if (set (link_at links k).from)) here_ in
    let to_here = ap (amount_if (set (link_at links k).to)) here_ in
    let out_ = sum_change m (λ j. amount_if (set (link_at links j).from) (old j)) (λ j. amount_if (set (link_at links j).from) (new j)) k (amount_if (set (link_at links k).from) d) lt (from_here ∙ from_plus)
    (λ j below apart. ap (amount_if (set (link_at links j).from)) (others j below apart)) in
    let in_ = sum_change m (λ j. amount_if (set (link_at links j).to) (old j)) (λ j. amount_if (set (link_at links j).to) (new j)) k (amount_if (set (link_at links k).to) d) lt (to_here ∙ to_plus)
    (λ j below apart. ap (amount_if (set (link_at links j).to)) (others j below apart)) in
    omega arith

-- the other way
adds_swap : (links : List Link) (m : ℕ) (old new : ℕ → ℕ) (x y d : ℕ) → Adds links m new old x y d → Adds links m old new y x d
adds_swap links m old new x y d adds = λ set. let one = adds set in omega arith

-- what is left of a trail is the next link and then the rest
pub next_link : (links : List Link) (trail : List ℕ) (index from to : ℕ) → index < length trail → LeadsBack links (drop index trail) from to
    → ((link_at links (slice_index trail index)).to ≡ to) × LeadsBack links (drop (index + 1) trail) from (link_at links (slice_index trail index)).from
next_link links trail index from to lt back =
    let e : drop index trail ≡ slice_index trail index ∷ drop (index + 1) trail = rw add-one (drop-cons trail index 0 lt) in
    subst (λ w. LeadsBack links w from to) e back

-- a link is the reverse of one alone
reverse_same : (half a b t : ℕ) → AreReverse half a t → AreReverse half b t → a ≡ b
reverse_same half a b t (inl x) (inl y) = let p = x.1 in let q = y.1 in omega arith
reverse_same half a b t (inl x) (inr y) = let p = x.1 in let q = y.0 in absurd (omega arith)
reverse_same half a b t (inr x) (inl y) = let p = x.0 in let q = y.1 in absurd (omega arith)
reverse_same half a b t (inr x) (inr y) = let p = x.1 in let q = y.1 in omega arith

-- so much of a trail is pushed along
pub record Pushing (old now : List ℕ) (trail : List ℕ) (amount index : ℕ) : Type 0 where
  pub places : length now ≡ length old
  pub sums : (half k : ℕ) → half + half ≡ length old → k < half → slice_index now k + slice_index now (k + half) ≡ slice_index old k + slice_index old (k + half)
  pub left : (place : ℕ) → index ≤ place → place < length trail → amount ≤ slice_index now (slice_index trail place)
  pub fresh : (half k : ℕ) → half + half ≡ length old → ((place : ℕ) → place < index → AreReverse half (slice_index trail place) k → ⊥) → slice_index now k ≤ slice_index old k
  pub most : (k : ℕ) → slice_index now k ≤ slice_index old k + amount
  pub gains : (half k : ℕ) → half + half ≡ length old → 0 < slice_index now k
      → (0 < slice_index old k) ⊎ ((place : ℕ) × (place < length trail) × AreReverse half (slice_index trail place) k)
  pub adds : (links : List Link) (from to : ℕ) → length links + length links ≡ length old → LeadsBack (both_ways links) trail from to
      → (at : ℕ) × LeadsBack (both_ways links) (drop index trail) from at
      × Adds links (length links) (λ k. slice_index old (k + length links)) (λ k. slice_index now (k + length links)) at to amount

pub pushing_begins : (old trail : List ℕ) (amount : ℕ) → ((place : ℕ) → place < length trail → amount ≤ slice_index old (slice_index trail place)) → Pushing old old trail amount 0
pushing_begins old trail amount enough = record {
  places = refl;
  sums = λ half k e lt. refl;
  fresh = λ half k e none. omega arith;
  most = λ k. omega arith;
  gains = λ half k e some. inl some;
  left = λ place _ lt. enough place lt;
  adds = λ links from to e back. (to, back, adds_nothing links (length links) (λ k. slice_index old (k + length links)) to amount);
}

module _ (old now after trail : List ℕ) (amount index half t : ℕ) (so_far : Pushing old now trail amount index) (lt : index < length trail)
    (halves : half + half ≡ length old) (apart : (p q : ℕ) → p < q → q < length trail → slice_index trail p ≡ slice_index trail q → ⊥)
    (places_after : length after ≡ length now) (pair : AreReverse half (slice_index trail index) t) (moved : Moved now after (slice_index trail index) t amount) where
  abbrev j : ℕ
  j = slice_index trail index

  left_more : (place : ℕ) → index + 1 ≤ place → place < length trail → amount ≤ slice_index after (slice_index trail place)
  left_more place above below =
      let differs : slice_index trail place ≡ j → ⊥ = λ e. apart index place (omega arith) below (sym e) in
      elim (cases_eq (slice_index trail place) t) as (λ _. amount ≤ slice_index after (slice_index trail place)) [
        | inl e ↦ let there = moved.there in let same = ap (slice_index after) e in omega arith
        | inr other ↦ let same = moved.others (slice_index trail place) differs other in let old_left = so_far.left place (omega arith) below in omega arith
      ]

  -- at two places that lie half of all apart
  kept_at : (a b : ℕ) → b ≡ a + half → slice_index after a + slice_index after b ≡ slice_index now a + slice_index now b → ((k : ℕ) → (k ≡ a → ⊥) → (k ≡ b → ⊥) → slice_index after k ≡ slice_index now k)
      → a < half → (k : ℕ) → k < half → slice_index after k + slice_index after (k + half) ≡ slice_index now k + slice_index now (k + half)
  kept_at a b apart_ both others low k below =
      elim (cases_eq k a) as (λ _. slice_index after k + slice_index after (k + half) ≡ slice_index now k + slice_index now (k + half)) [
        | inl e ↦
            let kb : k + half ≡ b = omega arith in
            let a = ap (slice_index after) e in let b = ap (slice_index now) e in let c = ap (slice_index after) kb in let d = ap (slice_index now) kb in omega arith
        | inr differs ↦
            let a = others k differs (λ q. omega arith) in
            let b = others (k + half) (λ q. omega arith) (λ q. differs (omega arith)) in omega arith
      ]

  sum_here : (k : ℕ) → k < half → slice_index after k + slice_index after (k + half) ≡ slice_index now k + slice_index now (k + half)
  sum_here k below =
      let here_ = moved.here_ in let there = moved.there in
      elim pair as (λ _. slice_index after k + slice_index after (k + half) ≡ slice_index now k + slice_index now (k + half)) [
        | inl forward ↦ kept_at j t forward.1 (omega arith) moved.others forward.0 k below
        | inr back ↦ kept_at t j back.1 (omega arith) (λ p a b. moved.others p b a) back.0 k below
      ]

  sums_more : (h k : ℕ) → h + h ≡ length old → k < h → slice_index after k + slice_index after (k + h) ≡ slice_index old k + slice_index old (k + h)
  sums_more h k e below =
      let same : half ≡ h = omega arith in
      let step = subst (λ x. k < x → slice_index after k + slice_index after (k + x) ≡ slice_index now k + slice_index now (k + x)) same (sum_here k) below in
      step ∙ so_far.sums h k e below

  gains_more : (h k : ℕ) → h + h ≡ length old → 0 < slice_index after k
      → (0 < slice_index old k) ⊎ ((place : ℕ) × (place < length trail) × AreReverse h (slice_index trail place) k)
  gains_more h k e some =
      let same : half ≡ h = omega arith in
      elim (cases_eq k t) as (λ _. (0 < slice_index old k) ⊎ ((place : ℕ) × (place < length trail) × AreReverse h (slice_index trail place) k)) [
        | inl is ↦ inr (index, lt, subst (λ x. AreReverse x j k) same (subst (AreReverse half j) (sym is) pair))
        | inr other ↦
            elim (cases_eq k j) as (λ _. (0 < slice_index old k) ⊎ ((place : ℕ) × (place < length trail) × AreReverse h (slice_index trail place) k)) [
              | inl is ↦ let a = ap (slice_index after) is in let b = ap (slice_index now) is in let c = moved.here_ in so_far.gains h k e (omega arith)
              | inr differs ↦ let a = moved.others k differs other in so_far.gains h k e (omega arith)
            ]
      ]

  adds_here : (links : List Link) → half ≡ length links → Adds links (length links) (λ k. slice_index now (k + length links)) (λ k. slice_index after (k + length links)) (link_at (both_ways links) j).from (link_at (both_ways links) j).to amount
  adds_here links e =
      elim pair as (λ _. Adds links (length links) (λ k. slice_index now (k + length links)) (λ k. slice_index after (k + length links)) (link_at (both_ways links) j).from (link_at (both_ways links) j).to amount) [
        | inl forward ↦
            let jt = forward.1 in let jlt = forward.0 in
            let link = forward_at links j (omega arith) in
            let here_ : slice_index after (j + length links) ≡ slice_index now (j + length links) + amount = subst (λ p. slice_index after p ≡ slice_index now p + amount) (omega arith) moved.there in
            subst (λ l. Adds links (length links) (λ k. slice_index now (k + length links)) (λ k. slice_index after (k + length links)) l.from l.to amount) (sym link)
            (adds_one links (length links) (λ k. slice_index now (k + length links)) (λ k. slice_index after (k + length links)) j amount (omega arith) here_
            (λ k below differs. moved.others (k + length links) (λ q. omega arith) (λ q. differs (omega arith))))
        | inr back ↦
            let jt = back.1 in let tlt = back.0 in
            let link : link_at (both_ways links) j ≡ reverse_link (link_at links t) = ap (link_at (both_ways links)) (omega arith) ∙ reverse_at links t (omega arith) in
            let here_ : slice_index now (t + length links) ≡ slice_index after (t + length links) + amount = subst (λ p. slice_index now p ≡ slice_index after p + amount) (omega arith) (sym moved.here_) in
            subst (λ l. Adds links (length links) (λ k. slice_index now (k + length links)) (λ k. slice_index after (k + length links)) l.from l.to amount) (sym link)
            (adds_swap links (length links) (λ k. slice_index now (k + length links)) (λ k. slice_index after (k + length links)) (link_at links t).from (link_at links t).to amount
            (adds_one links (length links) (λ k. slice_index after (k + length links)) (λ k. slice_index now (k + length links)) t amount (omega arith) here_
            (λ k below differs. sym (moved.others (k + length links) (λ q. differs (omega arith)) (λ q. omega arith)))))
      ]

  fresh_more : (h k : ℕ) → h + h ≡ length old → ((place : ℕ) → place < index + 1 → AreReverse h (slice_index trail place) k → ⊥) → slice_index after k ≤ slice_index old k
  fresh_more h k e none =
      let same : half ≡ h = omega arith in
      let before = so_far.fresh h k e (λ place below. none place (omega arith)) in
      let not_t : k ≡ t → ⊥ = λ q. none index (omega arith) (subst (λ x. AreReverse x j k) same (subst (AreReverse half j) (sym q) pair)) in
      elim (cases_eq k j) as (λ _. slice_index after k ≤ slice_index old k) [
        | inl q ↦ let a = ap (slice_index after) q in let b = ap (slice_index now) q in let here_ = moved.here_ in omega arith
        | inr not_j ↦ let a = moved.others k not_j not_t in omega arith
      ]

  most_more : (k : ℕ) → slice_index after k ≤ slice_index old k + amount
  most_more k =
      elim (cases_eq k t) as (λ _. slice_index after k ≤ slice_index old k + amount) [
        | inl q ↦
            let before = so_far.fresh half t halves (λ place below reverse_. apart place index below lt (reverse_same half (slice_index trail place) j t reverse_ pair)) in
            let a = ap (slice_index after) q in let b = ap (slice_index old) q in let there = moved.there in omega arith
        | inr not_t ↦
            let before = so_far.most k in
            elim (cases_eq k j) as (λ _. slice_index after k ≤ slice_index old k + amount) [
              | inl q ↦ let a = ap (slice_index after) q in let b = ap (slice_index now) q in let here_ = moved.here_ in omega arith
              | inr not_j ↦ let a = moved.others k not_j not_t in omega arith
            ]
      ]

  pub pushing_more : Pushing old after trail amount (index + 1)
  pushing_more = record {
    places = places_after ∙ so_far.places;
    sums = sums_more;
    fresh = fresh_more;
    most = most_more;
    gains = gains_more;
    left = left_more;
    adds = λ links from to e back.
        let before = so_far.adds links from to e back in
        let next = next_link (both_ways links) trail index from before.0 lt before.1 in
        let step = adds_here links (omega arith) in
        let one : Adds links (length links) (λ k. slice_index now (k + length links)) (λ k. slice_index after (k + length links)) (link_at (both_ways links) j).from before.0 amount =
        subst (λ p. Adds links (length links) (λ k. slice_index now (k + length links)) (λ k. slice_index after (k + length links)) (link_at (both_ways links) j).from p amount) next.0 step in (
          (link_at (both_ways links) j).from,
          next.1,
          adds_then links (length links) (λ k. slice_index old (k + length links)) (λ k. slice_index now (k + length links)) (λ k. slice_index after (k + length links)) (link_at (both_ways links) j).from before.0 to amount before.2 one,
        );
  }

pub pushed : (old now trail : List ℕ) (amount index : ℕ) → length trail ≤ index → Pushing old now trail amount index → IsPushed old now trail amount
pushed old now trail amount index past so_far = record {
  places = so_far.places;
  sums = so_far.sums;
  most = so_far.most;
  gains = so_far.gains;
  adds = λ links from to e back.
      let whole = so_far.adds links from to e back in
      let nothing : drop index trail ≡ [] = drop_of_length-le trail past in
      let same : whole.0 ≡ from = subst (λ w. LeadsBack (both_ways links) w from whole.0) nothing whole.1 in
      subst (λ p. Adds links (length links) (λ k. slice_index old (k + length links)) (λ k. slice_index now (k + length links)) p to amount) same whole.2;
}

take_all : (xs : List ℕ) (i : ℕ) → length xs ≤ i → take i xs ≡ xs
take_all xs i past = sym (append-nil (take i xs)) ∙ ap (λ ys. take i xs ++ ys) (sym (drop_of_length-le xs past)) ∙ take-append-drop i xs

-- two writes move an amount
pub moved_by : (now : List ℕ) (j t d : ℕ) → j < length now → t < length now → (t ≡ j → ⊥) → d ≤ slice_index now j
    → Moved now (set (set now j (slice_index now j - d)) t (slice_index (set now j (slice_index now j - d)) t + d)) j t d
moved_by now j t d jlt tlt apart le = record {
  here_ =
      let e = get_or-set_other first t j (slice_index first t + d) 0 (λ q. apart (sym q)) in
      let f = get_or-set_same now j (slice_index now j - d) 0 jlt in
      omega arith;
  there =
      let e = get_or-set_same first t (slice_index first t + d) 0 (let same = length-set now j (slice_index now j - d) in omega arith) in
      let f = get_or-set_other now j t (slice_index now j - d) 0 apart in
      omega arith;
  others = λ p notj nott. get_or-set_other first t p (slice_index first t + d) 0 nott ∙ get_or-set_other now j p (slice_index now j - d) 0 notj;
}
  where
    first : List ℕ
    first = set now j (slice_index now j - d)

-- what the reverse can take as well is a number of the machine
pub fits_more : (now : List ℕ) (half j t amount most : ℕ) → ((k : ℕ) → k < half → slice_index now k + slice_index now (k + half) < most) → AreReverse half j t → amount ≤ slice_index now j → slice_index now t + amount < most
fits_more now half j t amount most sums pair le =
    elim pair as (λ _. slice_index now t + amount < most) [
      | inl forward ↦ let sum = sums j forward.0 in let same = ap (slice_index now) forward.1 in omega arith
      | inr back ↦ let sum = sums t back.0 in let same = ap (slice_index now) back.1 in omega arith
    ]

-- one flow and then another, of which the first is given
adds_on : (links : List Link) (m : ℕ) (first second third : ℕ → ℕ) (x y z amount : ℕ) → Adds links m first second x y amount → Adds links m second third y z amount → Adds links m first third x z amount
adds_on links m first second third x y z amount one other = λ set.
    let a = one set in
    let b = other set in
    omega arith

-- so much of a trail is taken from
pub record Taking (old now : List ℕ) (trail : List ℕ) (amount index : ℕ) : Type 0 where
  pub places : length now ≡ length old
  pub less : (k : ℕ) → slice_index now k + amount * count_by (λ j. nat_eq j k) (take index trail) ≡ slice_index old k
  pub others : (k : ℕ) → ((place : ℕ) → place < length trail → place < index → slice_index trail place ≡ k → ⊥) → slice_index now k ≡ slice_index old k
  pub left : (place : ℕ) → index ≤ place → place < length trail → amount ≤ slice_index now (slice_index trail place)
  pub adds : (links : List Link) (from to : ℕ) → ((place : ℕ) → place < length trail → slice_index trail place < length links) → LeadsBack (both_ways links) trail from to
      → (at : ℕ) × LeadsBack (both_ways links) (drop index trail) from at × Adds links (length links) (λ k. slice_index now k) (λ k. slice_index old k) at to amount

pub taking_begins : (old trail : List ℕ) (amount : ℕ) → ((place : ℕ) → place < length trail → amount ≤ slice_index old (slice_index trail place)) → Taking old old trail amount 0
taking_begins old trail amount enough = record {
  places = refl;
  less = λ k. omega arith;
  others = λ k none. refl;
  left = λ place _ lt. enough place lt;
  adds = λ links from to within back. (to, back, adds_nothing links (length links) (λ k. slice_index old k) to amount);
}

module _ (old now after trail : List ℕ) (amount index : ℕ) (so_far : Taking old now trail amount index) (lt : index < length trail)
    (apart : (p q : ℕ) → p < q → q < length trail → slice_index trail p ≡ slice_index trail q → ⊥)
    (places_after : length after ≡ length now) (here_ : slice_index after (slice_index trail index) + amount ≡ slice_index now (slice_index trail index))
    (others : (p : ℕ) → (p ≡ slice_index trail index → ⊥) → slice_index after p ≡ slice_index now p) where
  abbrev taken : ℕ
  taken = slice_index trail index

  less_more : (k : ℕ) → slice_index after k + amount * count_by (λ j. nat_eq j k) (take (index + 1) trail) ≡ slice_index old k
  less_more k =
      let before = so_far.less k in
      elim (cases_eq taken k) as (λ _. slice_index after k + amount * count_by (λ j. nat_eq j k) (take (index + 1) trail) ≡ slice_index old k) [
        | inl e ↦
            let more = count_by_more_yes (λ j. nat_eq j k) trail index 0 lt (eq-eqb taken k e) in
            let a = ap (slice_index after) e in let b = ap (slice_index now) e in
            rw more (once_more (count_by (λ j. nat_eq j k) (take index trail)) (slice_index after k) (slice_index now k) (omega arith) ∙ before)
        | inr differs ↦
            let same = count_by_more_no (λ j. nat_eq j k) trail index 0 lt (ne_eqb taken k differs) in
            rw (same, others k (λ q. differs (sym q))) before
      ]
    where
      once_more : (count x y : ℕ) → x + amount ≡ y → x + amount * (count + 1) ≡ y + amount * count
      once_more count x y e = let step : amount * (count + 1) ≡ amount * count + amount = rw add-one (mul-suc amount count) in omega arith

  pub taking_more : Taking old after trail amount (index + 1)
  taking_more = record {
    places = places_after ∙ so_far.places;
    less = less_more;
    others = λ k none. others k (λ e. none index lt (omega arith) (sym e)) ∙ so_far.others k (λ place inside below. none place inside (omega arith));
    left = λ place above below.
        let same = others (slice_index trail place) (λ e. apart index place (omega arith) below (sym e)) in
        let before = so_far.left place (omega arith) below in
        omega arith;
    adds = λ links from to within back.
        let before = so_far.adds links from to within back in
        let next = next_link (both_ways links) trail index from before.0 lt before.1 in
        let link = forward_at links taken (within index lt) in
        let step : Adds links (length links) (λ k. slice_index after k) (λ k. slice_index now k) (link_at (both_ways links) taken).from (link_at (both_ways links) taken).to amount =
        subst (λ l. Adds links (length links) (λ k. slice_index after k) (λ k. slice_index now k) l.from l.to amount) (sym link)
        (adds_one links (length links) (λ k. slice_index after k) (λ k. slice_index now k) taken amount (within index lt) (sym here_) (λ k below differs. sym (others k differs))) in
        let one : Adds links (length links) (λ k. slice_index after k) (λ k. slice_index now k) (link_at (both_ways links) taken).from before.0 amount =
        subst (λ p. Adds links (length links) (λ k. slice_index after k) (λ k. slice_index now k) (link_at (both_ways links) taken).from p amount) next.0 step in (
          (link_at (both_ways links) taken).from,
          next.1,
          adds_on links (length links) (λ k. slice_index after k) (λ k. slice_index now k) (λ k. slice_index old k) (link_at (both_ways links) taken).from before.0 to amount one before.2,
        );
  }

pub all_taken : (old now trail : List ℕ) (amount index : ℕ) → length trail ≤ index → Taking old now trail amount index → IsTaken old now trail amount
all_taken old now trail amount index past so_far = record {
  places = so_far.places;
  less = λ k. subst (λ w. slice_index now k + amount * count_by (λ j. nat_eq j k) w ≡ slice_index old k) (take_all trail index past) (so_far.less k);
  others = λ k none. so_far.others k (λ place inside below. none place inside);
  adds = λ links from to within back.
      let whole = so_far.adds links from to within back in
      let nothing : drop index trail ≡ [] = drop_of_length-le trail past in
      let same : whole.0 ≡ from = subst (λ w. LeadsBack (both_ways links) w from whole.0) nothing whole.1 in
      subst (λ p. Adds links (length links) (λ k. slice_index now k) (λ k. slice_index old k) p to amount) same whole.2;
}
