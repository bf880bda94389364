-- Places are told apart by what stands there, and uses by places are those by variables.
use Rattle.std.proofs.Common.{◌≡◌, ℕ, zero, suc, ◌+◌, ◌-◌, ◌^◌, ◌<◌, ◌≤◌, Bool, true, false, List, [], ◌∷◌, ◌++◌, length, get_or, map, Some, slice_get, refl, sym, ap, ◌∙◌, subst, arith, inl, inr}
use Rattle.std.specs.Prelude.{eqb, nat_eq, if◌then◌else◌, ◌↔◌, Result, Ok, Err}
use Rattle.std.specs.List.{All, AllPairs, Contains, dedup, range_with_len}
use Rattle.std.specs.List.Sorted.{IsBinarySearchResult, IsPermutation, IsSorted, IsStrictlyIncreasing}
use Rattle.std.specs.Ordering.{nat_cmp}
use Rattle.std.proofs.lemmas.Bool.{cases_lt, eqb-true, eq-eqb}
use Rattle.std.proofs.lemmas.List.Elements.{All-contains, All-head, All-tail, Contains-append_left, Contains-append_right, Contains-append_cases, Contains-get_or}
use Rattle.std.proofs.lemmas.List.FromFn.{length-range_with_len, get_or-range_with_len}
use Rattle.std.proofs.lemmas.List.Filters.{dedup_is}
use Rattle.std.proofs.lemmas.List.Kept.{AllPairs-from_increasing, Contains-dedup_nat, Contains-from_dedup}
use Rattle.std.proofs.lemmas.List.Sorted.{searched, Contains-permutation, IsPermutation-sym}
use Rattle.std.proofs.lemmas.Map.Keys.{IsStrictlyIncreasing-dedup}
use Rattle.std.specs.List.Retain.{IsFiltered, DiffersFromLast}
use Rattle.std.proofs.lemmas.Option.{same_Some, slice_get-get_or, get_or_from_slice_get, slice_get_within}
use Rattle.bl_base.proofs.Members.{first_in, later_in, none_in, in_cases, in_map}
use Rattle.bl_graph.specs.Graphs.{use_of, IsGraph}
use Rattle.bl_graph.specs.declared.facts.Graph.{Graph}
use Rattle.bl_graph.specs.declared.facts.Use.{Use}
use Rattle.bl_graph.proofs.ChainLemmas.{all_from}
use Rattle.bl_program.specs.declared.definitions.ProgramParts.{ProgramParts as Program}
use Rattle.bl_graph.specs.Names.{AreNames, IsUsed, IsNamed, place_of, numbered, var_of}
use Rattle.bl_graph.specs.Ranges.{commands, variables, AreInRange}

abbrev pub Rise : List ℕ → Type 0
Rise names = AllPairs (λ x y. x < y) names

rise_tail : (y : ℕ) (names : List ℕ) → Rise (y ∷ names) → Rise names
rise_tail y names rise i j d lt below = rise (suc i) (suc j) d (omega arith) (omega arith)

-- where names rise, each stands at one place alone
pub place_is : (names : List ℕ) (i x : ℕ) → Rise names → i < length names → get_or names i 0 ≡ x → i ≡ place_of names x
place_is [] i x rise lt is = absurd (omega arith)
place_is (y ∷ names) zero x rise lt is = sym (ap (λ b. if b then 0 else suc (place_of names x)) (eq-eqb y x is))
place_is (y ∷ names) (suc i) x rise lt is = by (nat_eq y x) refl (place_is names i x (rise_tail y names rise) (omega arith) is)
  where
    less : y < x
    less = let first = rise zero (suc i) 0 (omega arith) lt in omega (arith, is)

    by : (b : Bool) → nat_eq y x ≡ b → i ≡ place_of names x → suc i ≡ (if b then 0 else suc (place_of names x))
    by true e rest = absurd (let same = eqb-true y x e in let lt = less in omega arith)
    by false e rest = ap suc rest

-- they are at least as great as their places
pub rise_ge : (names : List ℕ) (i : ℕ) → Rise names → i < length names → i ≤ get_or names i 0
rise_ge names zero rise lt = omega arith
rise_ge names (suc i) rise lt =
    let before = rise_ge names i rise (omega arith) in
    let next = rise i (suc i) 0 (omega arith) lt in
    omega arith

weakly : (names : List ℕ) → Rise names → (i j : ℕ) → i ≤ j → j < length names → get_or names i 0 ≤ get_or names j 0
weakly names rise i j le lt = elim (cases_lt i j) as (λ _. get_or names i 0 ≤ get_or names j 0) [
  | inl less ↦ let next = rise i j 0 less lt in omega arith
  | inr more ↦ let same : i ≡ j = omega arith in subst (λ k. get_or names i 0 ≤ get_or names k 0) same (omega arith)
]

-- what a binary search finds
pub found : (names : List ℕ) (x i : ℕ) (r : Result ℕ ℕ) → Rise names → IsBinarySearchResult (λ y. nat_cmp y x) names r → r ≡ Ok i → (i < length names) × (get_or names i 0 ≡ x)
found names x i (Ok j) rise h is = let same : j ≡ i = cc in let two = searched names x (Ok j) h (weakly names rise) in subst (λ k. (k < length names) × (get_or names k 0 ≡ x)) same two
found names x i (Err j) rise h is = cc

pub not_found : (names : List ℕ) (x i : ℕ) (r : Result ℕ ℕ) → Rise names → Contains names x → IsBinarySearchResult (λ y. nat_cmp y x) names r → r ≡ Err i → ⊥
not_found names x i (Ok j) rise has h is = cc
not_found names x i (Err j) rise has h is =
    let two = searched names x (Err j) h (weakly names rise) in
    let at : get_or names has.0 0 ≡ x = get_or_from_slice_get names has.0 x 0 (slice_get-get_or names has.0 x has.1 ∙ ap Some has.2) in
    elim (cases_lt has.0 j) as (λ _. ⊥) [
      | inl less ↦ let below = two.1 has.0 less in omega arith
      | inr more ↦ let above = two.2 has.0 more has.1 in omega arith
    ]

pub stands : (names : List ℕ) (x i : ℕ) → i < length names → get_or names i 0 ≡ x → slice_get names i ≡ Some x
stands names x i lt is = slice_get-get_or names i 0 lt ∙ ap Some is

-- what stands at a number's place is the number
pub at_place : (names : List ℕ) (x : ℕ) → Rise names → Contains names x → slice_get names (place_of names x) ≡ Some x
at_place names x rise has =
    let at : get_or names has.0 0 ≡ x = get_or_from_slice_get names has.0 x 0 (slice_get-get_or names has.0 x has.1 ∙ ap Some has.2) in
    subst (λ k. slice_get names k ≡ Some x) (place_is names has.0 x rise has.1 at) (stands names x has.0 has.1 at)

-- a place stands for one number, and a number for one place
pub place_back : (names : List ℕ) (i x : ℕ) → Rise names → slice_get names i ≡ Some x → i ≡ place_of names x
place_back names i x rise e = place_is names i x rise (slice_get_within names i x e) (get_or_from_slice_get names i x 0 e)

-- ---- uses by places

module _ (names : List ℕ) (rise : Rise names) where
  use_back : (old : List Use) (s i : ℕ) → All (λ u. Contains names u.var.0) old → Contains (map (numbered names) old) (use_of s i)
      → (x : ℕ) × (slice_get names i ≡ Some x) × Contains old (use_of s x)
  use_back [] s i all h = absurd (none_in (use_of s i) h)
  use_back (u ∷ old) s i all h =
      elim (in_cases (numbered names u) (use_of s i) (map (numbered names) old) h) as (λ _. (x : ℕ) × (slice_get names i ≡ Some x) × Contains (u ∷ old) (use_of s x)) [
        | inl same ↦ (
          u.var.0,
          subst (λ k. slice_get names k ≡ Some u.var.0) (ap (λ (w : Use). w.var.0) same)
              (at_place names u.var.0 rise (All-head (λ (w : Use). Contains names w.var.0) u old all)),
          subst (λ p. Contains (u ∷ old) (use_of p u.var.0)) (ap (λ (w : Use). w.at.0) same) (first_in u old),
        )
        | inr rest ↦
            let back = use_back old s i (All-tail (λ (w : Use). Contains names w.var.0) u old all) rest in
            (back.0, back.1, later_in u (use_of s back.0) old back.2)
      ]

  use_there : (old : List Use) (s i x : ℕ) → slice_get names i ≡ Some x → Contains old (use_of s x) → Contains (map (numbered names) old) (use_of s i)
  use_there old s i x e h =
      subst (λ k. Contains (map (numbered names) old) (use_of s k)) (sym (place_back names i x rise e)) (in_map (numbered names) old (use_of s x) h)

  -- exactly the uses of the variables that stand there
  pub uses_are : (old : List Use) → All (λ u. Contains names u.var.0) old → (s i : ℕ)
      → Contains (map (numbered names) old) (use_of s i) ↔ ((x : ℕ) × (slice_get names i ≡ Some x) × Contains old (use_of s x))
  uses_are old all s i = (use_back old s i all, λ h. use_there old s i h.0 h.1 h.2)

-- ---- all numbers below a bound

pub range_rises : (n : ℕ) → Rise (range_with_len 0 n)
range_rises n i j d lt below =
    let all = length-range_with_len 0 n in
    let one = get_or-range_with_len 0 n i d (omega arith) in
    let other = get_or-range_with_len 0 n j d (omega arith) in
    omega arith

pub range_has : (n x : ℕ) → x < n → Contains (range_with_len 0 n) x
range_has n x lt = (x, let all = length-range_with_len 0 n in omega arith, let one = get_or-range_with_len 0 n x x lt in omega arith)

pub in_range_of : (n x : ℕ) → Contains (range_with_len 0 n) x → x < n
in_range_of n x has =
    let all = length-range_with_len 0 n in
    let lt : has.0 < n = let within = has.1 in omega arith in
    let one = get_or-range_with_len 0 n has.0 x lt in
    let is = has.2 in
    omega arith

-- each stands at the place of its own number
pub range_at : (n x : ℕ) → x < n → slice_get (range_with_len 0 n) x ≡ Some x
range_at n x lt =
    stands (range_with_len 0 n) x x (let all = length-range_with_len 0 n in omega arith) (let one = get_or-range_with_len 0 n x 0 lt in omega arith)

pub place_in_range : (n x : ℕ) → x < n → place_of (range_with_len 0 n) x ≡ x
place_in_range n x lt = sym (place_back (range_with_len 0 n) x x (range_rises n) (range_at n x lt))

-- so uses by their numbers are the uses
pub numbered_range : (n : ℕ) (uses : List Use) → All (λ u. Contains (range_with_len 0 n) u.var.0) uses → map (numbered (range_with_len 0 n)) uses ≡ uses
numbered_range n [] all = refl
numbered_range n (u ∷ uses) all =
    both (ap (use_of u.at.0) (place_in_range n u.var.0 (in_range_of n u.var.0 (All-head (λ (w : Use). Contains (range_with_len 0 n) w.var.0) u uses all))))
    (numbered_range n uses (All-tail (λ (w : Use). Contains (range_with_len 0 n) w.var.0) u uses all))
  where
    both : {v : Use} {rest : List Use} → v ≡ u → rest ≡ uses → (v ∷ rest) ≡ u ∷ uses
    both e f = cc

-- where all are kept, each is its own number
module _ (names : List ℕ) (n : ℕ) (all : names ≡ range_with_len 0 n) where
  pub own_at : (x : ℕ) → x < length names → slice_get names x ≡ Some x
  own_at x lt = subst (λ l. slice_get l x ≡ Some x) (sym all) (range_at n x (let same = ap length all in let long = length-range_with_len 0 n in omega arith))

  within_own : (x : ℕ) → Contains names x → x < n
  within_own x has = in_range_of n x (subst (λ l. Contains l x) all has)

  pub own_place : (x : ℕ) → Contains names x → x ≡ place_of names x
  own_place x has = subst (λ l. x ≡ place_of l x) (sym all) (sym (place_in_range n x (within_own x has)))

  pub own_here : (x : ℕ) → Contains names x → slice_get names x ≡ Some x
  own_here x has = subst (λ l. slice_get l x ≡ Some x) (sym all) (range_at n x (within_own x has))

  pub own_uses : (uses : List Use) → All (λ u. Contains names u.var.0) uses → uses ≡ map (numbered names) uses
  own_uses uses has =
      subst (λ l. uses ≡ map (numbered l) uses) (sym all) (sym (numbered_range n uses (subst (λ l. All (λ u. Contains l u.var.0) uses) all has)))

-- ---- the names of a program

-- they are no more than the variables
pub no_more : (names : List ℕ) (n : ℕ) → Rise names → All (λ x. x < n) names → length names ≤ n
no_more names n rise small =
    elim (cases_lt 0 (length names)) as (λ _. length names ≤ n) [
      | inl some ↦
          let last = rise_ge names (length names - 1) rise (omega arith) in
          let below = small (length names - 1) 0 (omega arith) in
          omega arith
      | inr none ↦ omega arith
    ]

pub place_within : (names : List ℕ) (x : ℕ) → Rise names → Contains names x → place_of names x < length names
place_within names x rise has = slice_get_within names (place_of names x) x (at_place names x rise has)

-- names that have one place are one name
pub place_inj : (names : List ℕ) (x y : ℕ) → Rise names → Contains names x → Contains names y → place_of names x ≡ place_of names y → x ≡ y
place_inj names x y rise one other e =
    same_Some x y (sym (at_place names x rise one) ∙ ap (slice_get names) e ∙ at_place names y rise other)

pub all_are_names : (program : Program) → AreInRange program → AreNames program (range_with_len 0 (variables program))
all_are_names program is = record {
  rise = range_rises (variables program);
  small = λ k d lt.
      let all = length-range_with_len 0 (variables program) in
      let one = get_or-range_with_len 0 (variables program) k d (omega arith) in
      omega arith;
  writes = λ s x h. range_has (variables program) x ((is.writes s x h).1);
  reads = λ s x h. range_has (variables program) x ((is.reads s x h).1);
  sinks = λ s x h. range_has (variables program) x ((is.sinks s x h).1);
}

-- so they fit 32 bits, beside the commands
pub few_names : (program : Program) (names : List ℕ) → AreInRange program → AreNames program names → commands program + length names < 2 ^ 32
few_names program names is named = let most = no_more names (variables program) named.rise named.small in let numbers = is.numbers in omega arith

module _ (program : Program) (g : Graph) (names : List ℕ) (lists : IsGraph program g) (named : AreNames program names) where
  pub writes_named : All (λ u. Contains names u.var.0) g.writes
  writes_named = all_from (λ u. Contains names u.var.0) g.writes (λ u h. named.writes u.at.0 u.var.0 ((lists.writes.each u.at.0 u.var.0).0 h))

  pub reads_named : All (λ u. Contains names u.var.0) g.reads
  reads_named = all_from (λ u. Contains names u.var.0) g.reads (λ u h. named.reads u.at.0 u.var.0 ((lists.reads.each u.at.0 u.var.0).0 h))

  pub sinks_named : All (λ u. Contains names u.var.0) g.sinks
  sinks_named = all_from (λ u. Contains names u.var.0) g.sinks (λ u h. named.sinks u.at.0 u.var.0 ((lists.sinks.each u.at.0 u.var.0).0 h))

all_have : (names more : List ℕ) → ((x : ℕ) → Contains more x → Contains names x) → All (λ x. Contains names x) more
all_have names more has k d lt = has (get_or more k d) (Contains-get_or more k d lt)

pub further_in_range : (n : ℕ) (more : List ℕ) → All (λ x. x < n) more → All (λ x. Contains (range_with_len 0 n) x) more
further_in_range n more small = all_have (range_with_len 0 n) more (λ x h. range_has n x (All-contains (λ y. y < n) more x small h))

module _ (program : Program) (g : Graph) (more names : List ℕ) (lists : IsGraph program g) (is : AreInRange program) (few : All (λ x. x < variables program) more)
    (rise : Rise names) (has : (x : ℕ) → Contains names x ↔ IsNamed g more x) where
  below : (x : ℕ) → IsNamed g more x → x < variables program
  below x (inl w) = (is.writes w.0 x ((lists.writes.each w.0 x).0 w.1)).1
  below x (inr (inl r)) = (is.reads r.0 x ((lists.reads.each r.0 x).0 r.1)).1
  below x (inr (inr (inl s))) = (is.sinks s.0 x ((lists.sinks.each s.0 x).0 s.1)).1
  below x (inr (inr (inr m))) = All-contains (λ y. y < variables program) more x few m

  pub named_are_names : AreNames program names
  named_are_names = record {
    rise = rise;
    small = λ k d lt. below (get_or names k d) ((has (get_or names k d)).0 (Contains-get_or names k d lt));
    writes = λ s x h. (has x).1 (inl (s, (lists.writes.each s x).1 h));
    reads = λ s x h. (has x).1 (inr (inl (s, (lists.reads.each s x).1 h)));
    sinks = λ s x h. (has x).1 (inr (inr (inl (s, (lists.sinks.each s x).1 h))));
  }

  pub further_are_named : All (λ x. Contains names x) more
  further_are_named = all_have names more (λ x h. (has x).1 (inr (inr (inr h))))

-- ---- the names of a graph

used : (uses : List Use) (x : ℕ) → Contains (map var_of uses) x → IsUsed uses x
used [] x h = absurd (none_in x h)
used (u ∷ uses) x h = elim (in_cases u.var.0 x (map var_of uses) h) as (λ _. IsUsed (u ∷ uses) x) [
  | inl same ↦ (u.at.0, subst (λ y. Contains (u ∷ uses) (use_of u.at.0 y)) same (first_in u uses))
  | inr rest ↦ let one = used uses x rest in (one.0, later_in u (use_of one.0 x) uses one.1)
]

in_use : (uses : List Use) (x : ℕ) → IsUsed uses x → Contains (map var_of uses) x
in_use uses x h = in_map var_of uses (use_of h.0 x) h.1

-- the variables of a graph's uses, and further ones
abbrev pub all_of : Graph → List ℕ → List ℕ
all_of g more = map var_of g.writes ++ map var_of g.reads ++ map var_of g.sinks ++ more

module _ (g : Graph) (more raw sorted names : List ℕ) (is : raw ≡ all_of g more)
    (moved : IsPermutation raw sorted) (order : IsSorted nat_cmp sorted) (kept : IsFiltered (DiffersFromLast eqb) [] sorted names) where
  made : names ≡ dedup eqb sorted
  made = dedup_is eqb sorted names kept

  pub names_rise : Rise names
  names_rise = AllPairs-from_increasing names (subst IsStrictlyIncreasing (sym made) (IsStrictlyIncreasing-dedup sorted order))

  abbrev moves : List ℕ
  moves = map var_of g.writes ++ map var_of g.reads

  abbrev uses : List ℕ
  uses = moves ++ map var_of g.sinks

  pub names_have : (x : ℕ) → Contains names x ↔ IsNamed g more x
  names_have x = (there, back)
    where
      named : Contains (uses ++ more) x → IsNamed g more x
      named h = elim (Contains-append_cases uses more x h) as (λ _. IsNamed g more x) [
        | inl used_there ↦ elim (Contains-append_cases moves (map var_of g.sinks) x used_there) as (λ _. IsNamed g more x) [
          | inl move ↦ elim (Contains-append_cases (map var_of g.writes) (map var_of g.reads) x move) as (λ _. IsNamed g more x) [
            | inl w ↦ inl (used g.writes x w)
            | inr r ↦ inr (inl (used g.reads x r))
          ]
          | inr s ↦ inr (inr (inl (used g.sinks x s)))
        ]
        | inr m ↦ inr (inr (inr m))
      ]

      there : Contains names x → IsNamed g more x
      there h =
          named (subst (λ l. Contains l x) is (Contains-permutation sorted raw x (IsPermutation-sym raw sorted moved)
          (Contains-from_dedup eqb sorted x (subst (λ l. Contains l x) made h))))

      move : Contains moves x → Contains (uses ++ more) x
      move h = Contains-append_left uses more x (Contains-append_left moves (map var_of g.sinks) x h)

      listed : IsNamed g more x → Contains (uses ++ more) x
      listed (inl w) = move (Contains-append_left (map var_of g.writes) (map var_of g.reads) x (in_use g.writes x w))
      listed (inr (inl r)) = move (Contains-append_right (map var_of g.writes) (map var_of g.reads) x (in_use g.reads x r))
      listed (inr (inr (inl s))) = Contains-append_left uses more x (Contains-append_right moves (map var_of g.sinks) x (in_use g.sinks x s))
      listed (inr (inr (inr m))) = Contains-append_right uses more x m

      back : IsNamed g more x → Contains names x
      back h =
          subst (λ l. Contains l x) (sym made) (Contains-dedup_nat sorted x (Contains-permutation raw sorted x moved (subst (λ l. Contains l x) (sym is) (listed h))))
