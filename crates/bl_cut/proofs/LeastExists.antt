-- Some set is least: that of a typing of least weight with the fewest transient variables; also where something is asked of variables.
use Rattle.std.proofs.Common.{◌≡◌, ℕ, zero, suc, ◌+◌, ◌*◌, ◌<◌, ◌≤◌, Bool, true, false, List, [], ◌∷◌, ◌++◌, length, get_or, unwrap_or, refl, sym, ap, subst, ◌∙◌, arith, ◌⊎◌, inl, inr, not, ◌&&◌, ◌||◌}
use Rattle.std.specs.Prelude.{IsTrue, map}
use Rattle.std.specs.List.{Contains}
use Rattle.std.proofs.lemmas.Bool.{cases_Bool, cases_lt, false≢true, not_from_false, false_from_ne_true, and_from, and_parts, and_left, or_cases, or_from, or_left}
use Rattle.std.proofs.Math.Nat.{suc-mul}
use Rattle.std.proofs.lemmas.List.Elements.{Contains-append_left, Contains-append_right, Contains-append_cases}
use Rattle.bl_base.specs.Sums.{sum_below}
use Rattle.bl_base.proofs.Sums.{sum_le, sum_plus, sum_tight, sum_bound}
use Rattle.bl_base.proofs.BoolLemmas.{never_both}
use Rattle.bl_base.proofs.Members.{first_in, later_in, in_cases, in_map, from_map, none_in}
use Rattle.bl_base.proofs.Decisions.{Decided, decided_below, decided_both, decided_either, decided_false, decided_true, holds, holds_if, if_holds}
use Rattle.bl_program.specs.Sites.{Among, site_weight, IsSite, Writes, SinkReads, sunk_by, weight_of}
use Rattle.bl_program.specs.declared.definitions.ProgramParts.{ProgramParts as Program}
use Rattle.bl_graph.specs.Ranges.{commands, variables, AreSites, AreInRange}
use Rattle.bl_graph.proofs.PathCounts.{amount_if, once}
use Rattle.bl_transient.specs.Transient.{Asked, AssignsUnder, PassesUnder, TransUnder, loaded, moved, given}
use Rattle.bl_graph.proofs.CommandLists.{decided_sink, stands_below}
use Rattle.bl_graph.proofs.FedSites.{feeds, writes_stable, crossed_by, fed_load, fed_read, fed_how, stable_write, stable_how}
use Rattle.bl_transient.proofs.LeastTypings.{is_trans, trans_least, passing_stable, passing_sinks, least_typing, least_assigns, typing_trans}
use Rattle.bl_cut.specs.Least.{LeastUnder}
use Rattle.bl_cut.specs.Network.{IsBarred}

-- a list's answer at a place; no past its end
abbrev is_in : List Bool → ℕ → Bool
is_in marks v = get_or marks v false

-- lists of answers, and all of a length
tabulate : ℕ → (ℕ → Bool) → List Bool
tabulate zero f = []
tabulate (suc n) f = f zero ∷ tabulate n (λ k. f (suc k))

is_in_table : (n : ℕ) (f : ℕ → Bool) → ((x : ℕ) → n ≤ x → f x ≡ false) → (x : ℕ) → is_in (tabulate n f) x ≡ f x
unfolding tabulate
is_in_table zero f past x = sym (past x (omega arith))
is_in_table (suc n) f past zero = refl
is_in_table (suc n) f past (suc x) = is_in_table n (λ k. f (suc k)) (λ k le. past (suc k) (omega arith)) x

all_lists : ℕ → List (List Bool)
all_lists zero = [] ∷ []
all_lists (suc n) = map (λ l. true ∷ l) (all_lists n) ++ map (λ l. false ∷ l) (all_lists n)

listed_table : (n : ℕ) (f : ℕ → Bool) → Contains (all_lists n) (tabulate n f)
unfolding tabulate all_lists
listed_table zero f = first_in [] []
listed_table (suc n) f =
    let rest = listed_table n (λ k. f (suc k)) in
    let table : List Bool = tabulate n (λ k. f (suc k)) in
    elim (cases_Bool (f zero)) as (λ _. Contains (map (λ l. true ∷ l) (all_lists n) ++ map (λ l. false ∷ l) (all_lists n)) (f zero ∷ table)) [
      | inl e ↦ subst (λ b. Contains (map (λ l. true ∷ l) (all_lists n) ++ map (λ l. false ∷ l) (all_lists n)) (b ∷ table)) (sym e)
          (Contains-append_left (map (λ l. true ∷ l) (all_lists n)) (map (λ l. false ∷ l) (all_lists n)) (true ∷ table) (in_map (λ l. true ∷ l) (all_lists n) table rest))
      | inr e ↦ subst (λ b. Contains (map (λ l. true ∷ l) (all_lists n) ++ map (λ l. false ∷ l) (all_lists n)) (b ∷ table)) (sym e)
          (Contains-append_right (map (λ l. true ∷ l) (all_lists n)) (map (λ l. false ∷ l) (all_lists n)) (false ∷ table) (in_map (λ l. false ∷ l) (all_lists n) table rest))
    ]

listed_length : (n : ℕ) (l : List Bool) → Contains (all_lists n) l → length l ≡ n
unfolding all_lists
listed_length zero l h = elim (in_cases [] l [] h) as (λ _. length l ≡ 0) [ inl e ↦ ap length (sym e) | inr rest ↦ absurd (none_in l rest) ]
listed_length (suc n) l h =
    elim (Contains-append_cases (map (λ k. true ∷ k) (all_lists n)) (map (λ k. false ∷ k) (all_lists n)) l h) as (λ _. length l ≡ suc n) [
      | inl one ↦ let found = from_map (λ k. true ∷ k) (all_lists n) l one in ap length (sym found.2) ∙ ap suc (listed_length n found.0 found.1)
      | inr two ↦ let found = from_map (λ k. false ∷ k) (all_lists n) l two in ap length (sym found.2) ∙ ap suc (listed_length n found.0 found.1)
    ]

-- the least of the elements that pass a test
module _ {X : Type 0} (p : X → Bool) (m : X → ℕ) where
  abbrev Best : List X → X → Type 0
  Best xs b = (p b ≡ true) × ((y : X) → Contains xs y → p y ≡ true → m b ≤ m y) × Contains xs b

  best_or_none : (xs : List X) → ((b : X) × Best xs b) ⊎ ((y : X) → Contains xs y → p y ≡ true → ⊥)
  best_or_none [] = inr (λ y h e. none_in y h)
  best_or_none (x ∷ xs) =
      elim (cases_Bool (p x)) as (λ _. ((b : X) × Best (x ∷ xs) b) ⊎ ((y : X) → Contains (x ∷ xs) y → p y ≡ true → ⊥)) [
        | inl e ↦
            elim (best_or_none xs) as (λ _. ((b : X) × Best (x ∷ xs) b) ⊎ ((y : X) → Contains (x ∷ xs) y → p y ≡ true → ⊥)) [
              | inl best ↦
                  elim (cases_lt (m best.0) (m x)) as (λ _. ((b : X) × Best (x ∷ xs) b) ⊎ ((y : X) → Contains (x ∷ xs) y → p y ≡ true → ⊥)) [
                    | inl lt ↦ inl (best.0, (best.1.0, λ y h q. elim (in_cases x y xs h) as (λ _. m best.0 ≤ m y) [ inl same ↦ let f = ap m same in omega arith | inr rest ↦ best.1.1 y rest q ], later_in x best.0 xs best.1.2))
                    | inr le ↦ inl (x, (e, λ y h q. elim (in_cases x y xs h) as (λ _. m x ≤ m y) [ inl same ↦ let f = ap m same in omega arith | inr rest ↦ let least = best.1.1 y rest q in omega arith ], first_in x xs))
                  ]
              | inr none ↦ inl (x, (e, λ y h q. elim (in_cases x y xs h) as (λ _. m x ≤ m y) [ inl same ↦ let f = ap m same in omega arith | inr rest ↦ absurd (none y rest q) ], first_in x xs))
            ]
        | inr e ↦
            elim (best_or_none xs) as (λ _. ((b : X) × Best (x ∷ xs) b) ⊎ ((y : X) → Contains (x ∷ xs) y → p y ≡ true → ⊥)) [
              | inl best ↦ inl (best.0, (best.1.0, λ y h q. elim (in_cases x y xs h) as (λ _. m best.0 ≤ m y) [ inl same ↦ absurd (false≢true (sym e ∙ subst (λ z. p z ≡ true) (sym same) q)) | inr rest ↦ best.1.1 y rest q ], later_in x best.0 xs best.1.2))
              | inr none ↦ inr (λ y h q. elim (in_cases x y xs h) as (λ _. ⊥) [ inl same ↦ false≢true (sym e ∙ subst (λ z. p z ≡ true) (sym same) q) | inr rest ↦ none y rest q ])
            ]
      ]

-- first by weight, then by count
by_weight : (f g c d v : ℕ) → d ≤ v → f * suc v + c ≤ g * suc v + d → f ≤ g
by_weight f g c d v small le =
    elim (cases_lt g f) as (λ _. f ≤ g) [
      | inr le_ ↦ le_
      | inl lt ↦
          let more : suc g * suc v ≤ f * suc v = Rattle.std.proofs.Math.Nat.mul-le-mul_right (suc v) (omega arith) in
          let step = suc-mul g (suc v) in
          absurd (omega arith)
    ]

by_count : (f g c d v : ℕ) → f ≡ g → f * suc v + c ≤ g * suc v + d → c ≤ d
by_count f g c d v e le = let same = ap (λ h. h * suc v) e in omega arith

if_more : (a b : Bool) (w : ℕ) → (a ≡ true → b ≡ true) → amount_if a w ≤ amount_if b w
if_more true b w into = let e = ap (λ c. amount_if c w) (into refl) in omega arith
if_more false b w into = omega arith

-- at one site: a and b say whether two typings feed it, p and q whether it writes a variable stable in them
crossing : (a b p q c d both either : Bool) (w : ℕ) → (both ≡ true → (c ≡ true) × ((p ≡ true) ⊎ (q ≡ true))) → (c ≡ true → (a ≡ true) × (b ≡ true)) → (either ≡ true → ((a ≡ true) ⊎ (b ≡ true)) × (d ≡ true)) → (d ≡ true → (p ≡ true) × (q ≡ true))
    → amount_if both w + amount_if either w ≤ amount_if (a && p) w + amount_if (b && q) w
crossing a b p q c d false false w f g h i = omega arith
crossing a b p q c d true false w f g h i =
    let known = f refl in
    let fed = g known.0 in
    elim known.1 as (λ _. w + 0 ≤ amount_if (a && p) w + amount_if (b && q) w) [
      | inl e ↦ let one = ap (λ x. amount_if x w) (and_from a p fed.0 e) in omega arith
      | inr e ↦ let two = ap (λ x. amount_if x w) (and_from b q fed.1 e) in omega arith
    ]
crossing a b p q c d false true w f g h i =
    let known = h refl in
    let cold = i known.1 in
    elim known.0 as (λ _. 0 + w ≤ amount_if (a && p) w + amount_if (b && q) w) [
      | inl e ↦ let one = ap (λ x. amount_if x w) (and_from a p e cold.0) in omega arith
      | inr e ↦ let two = ap (λ x. amount_if x w) (and_from b q e cold.1) in omega arith
    ]
crossing a b p q c d true true w f g h i =
    let fed = g (f refl).0 in
    let cold = i (h refl).1 in
    let one = ap (λ x. amount_if x w) (and_from a p fed.0 cold.0) in
    let two = ap (λ x. amount_if x w) (and_from b q fed.1 cold.1) in
    omega arith

-- what is asked to be transient is a variable, and may be transient
module _ (asked : Asked) (program : Program) (is : AreInRange program) (transients : (x : ℕ) → IsTrue (asked.transient x) → x < variables program) (apart : (x : ℕ) → IsTrue (asked.transient x) → IsBarred asked program x → ⊥) where
  -- a typing has what is asked, and nothing that a sink reads
  record Valid (t : ℕ → Bool) : Type 0 where
    sinks : (position x : ℕ) → SinkReads program position x → t x ≡ false
    transient : (x : ℕ) → IsTrue (asked.transient x) → t x ≡ true
    stable : (x : ℕ) → IsTrue (asked.stable x) → t x ≡ false

  fed_site : (t : ℕ → Bool) (s : ℕ) → feeds program t s ≡ true → IsSite program s
  fed_site t s h = elim (fed_how program t s h) as (λ _. IsSite program s) [ inl load ↦ is.loads s load | inr r ↦ (is.reads s r.0 r.1).0 ]

  crossed_sites : (t : ℕ → Bool) → AreSites program (crossed_by program t)
  crossed_sites t = λ s h. fed_site t s (and_parts (feeds program t s) (writes_stable program t s) h).0

  -- with these sites protected such a typing passes
  crossed_assigns : (t : ℕ → Bool) → Valid t → AssignsUnder asked program t (crossed_by program t)
  crossed_assigns t valid = record {
    loads = λ s x load writes may. written s x writes may (fed_load program t s load);
    moves = λ s x y reads writes may e. written s y writes may (fed_read program t s x reads e);
    given = valid.transient;
  }
    where
      written : (s x : ℕ) → Writes program s x → IsTrue (not (crossed_by program t s)) → feeds program t s ≡ true → IsTrue (t x)
      written s x writes may fed =
          elim (cases_Bool (t x)) as (λ _. IsTrue (t x)) [
            | inl e ↦ e
            | inr e ↦ absurd (never_both (crossed_by program t s) (and_from (feeds program t s) (writes_stable program t s) fed (stable_write program t s x writes e)) may)
          ]

  crossed_passes : (t : ℕ → Bool) → Valid t → PassesUnder asked program (crossed_by program t)
  crossed_passes t valid = (
    t,
    record {
      assigns = crossed_assigns t valid;
      sinks = λ position x sink. not_from_false (t x) (valid.sinks position x sink);
      stable = λ x stable. not_from_false (t x) (valid.stable x stable);
    },
  )

  abbrev both : (ℕ → Bool) → (ℕ → Bool) → ℕ → Bool
  both t u x = t x && u x

  abbrev either : (ℕ → Bool) → (ℕ → Bool) → ℕ → Bool
  either t u x = t x || u x

  cases_and : (a b : Bool) → (a && b) ≡ false → (a ≡ false) ⊎ (b ≡ false)
  cases_and true b e = inr e
  cases_and false b e = inl refl

  both_not : (a b : Bool) → (a || b) ≡ false → (a ≡ false) × (b ≡ false)
  both_not true b e = absurd (false≢true (sym e))
  both_not false b e = (refl, e)

  -- the weights of two typings together are at least those of what is in both and in either
  submodular : (t u : ℕ → Bool) → weight_of program (crossed_by program (both t u)) + weight_of program (crossed_by program (either t u)) ≤ weight_of program (crossed_by program t) + weight_of program (crossed_by program u)
  submodular t u =
      let weigh : ℕ → ℕ = λ s. unwrap_or (site_weight program s) 0 in
      let in_both : ℕ → ℕ = λ s. amount_if (crossed_by program (both t u) s) (weigh s) in
      let in_either : ℕ → ℕ = λ s. amount_if (crossed_by program (either t u) s) (weigh s) in
      let in_t : ℕ → ℕ = λ s. amount_if (crossed_by program t s) (weigh s) in
      let in_u : ℕ → ℕ = λ s. amount_if (crossed_by program u s) (weigh s) in
      let left = sum_plus (commands program) in_both in_either in
      let right = sum_plus (commands program) in_t in_u in
      let le = sum_le (commands program) (λ s. in_both s + in_either s) (λ s. in_t s + in_u s) (λ s _. at_site s) in
      omega arith
    where
      at_site : (s : ℕ) → amount_if (crossed_by program (both t u) s) (unwrap_or (site_weight program s) 0) + amount_if (crossed_by program (either t u) s) (unwrap_or (site_weight program s) 0)
          ≤ amount_if (crossed_by program t s) (unwrap_or (site_weight program s) 0) + amount_if (crossed_by program u s) (unwrap_or (site_weight program s) 0)
      at_site s = crossing (feeds program t s) (feeds program u s) (writes_stable program t s) (writes_stable program u s) (feeds program (both t u) s) (writes_stable program (either t u) s) (crossed_by program (both t u) s) (crossed_by program (either t u) s) (unwrap_or (site_weight program s) 0)
          (λ h. let parts = and_parts (feeds program (both t u) s) (writes_stable program (both t u) s) h in
          let how = stable_how program (both t u) s parts.1 in
          (parts.0, elim (cases_and (t how.0) (u how.0) how.2) as (λ _. (writes_stable program t s ≡ true) ⊎ (writes_stable program u s ≡ true)) [ inl e ↦ inl (stable_write program t s how.0 how.1 e) | inr e ↦ inr (stable_write program u s how.0 how.1 e) ]))
          (λ h. elim (fed_how program (both t u) s h) as (λ _. (feeds program t s ≡ true) × (feeds program u s ≡ true)) [
            | inl load ↦ (fed_load program t s load, fed_load program u s load)
            | inr r ↦ let parts = and_parts (t r.0) (u r.0) r.2 in (fed_read program t s r.0 r.1 parts.0, fed_read program u s r.0 r.1 parts.1)
          ])
          (λ h. let parts = and_parts (feeds program (either t u) s) (writes_stable program (either t u) s) h in (
            elim (fed_how program (either t u) s parts.0) as (λ _. (feeds program t s ≡ true) ⊎ (feeds program u s ≡ true)) [
              | inl load ↦ inl (fed_load program t s load)
              | inr r ↦ elim (or_cases (t r.0) (u r.0) r.2) as (λ _. (feeds program t s ≡ true) ⊎ (feeds program u s ≡ true)) [ inl e ↦ inl (fed_read program t s r.0 r.1 e) | inr e ↦ inr (fed_read program u s r.0 r.1 e) ]
            ],
            parts.1,
          ))
          (λ h. let how = stable_how program (either t u) s h in
          let none = both_not (t how.0) (u how.0) how.2 in
          (stable_write program t s how.0 how.1 none.0, stable_write program u s how.0 how.1 none.1))

  -- typings of variables alone
  abbrev Small : (ℕ → Bool) → Type 0
  Small t = (x : ℕ) → (variables program) ≤ x → t x ≡ false

  abbrev count : (ℕ → Bool) → ℕ
  count t = sum_below (variables program) (λ x. once (t x))

  abbrev measure : (ℕ → Bool) → ℕ
  measure t = weight_of program (crossed_by program t) * suc (variables program) + count t

  once_most : (b : Bool) → once b ≤ 1
  once_most true = omega arith
  once_most false = omega arith

  count_most : (t : ℕ → Bool) → count t ≤ (variables program)
  count_most t = let bound = sum_bound (variables program) (λ x. once (t x)) 1 (λ k _. once_most (t k)) in let e = Rattle.std.proofs.Math.Nat.mul-one (variables program) in omega arith

  -- what a list of answers breaks
  abbrev Breaks : List Bool → Type 0
  Breaks l = ((position : ℕ) × (position < commands program) × ((x : ℕ) × SinkReads program position x × (is_in l x ≡ true)))
      ⊎ (((x : ℕ) × (x < variables program) × ((asked.transient x ≡ true) × (is_in l x ≡ false))) ⊎ ((x : ℕ) × (x < length l) × ((asked.stable x ≡ true) × (is_in l x ≡ true))))

  breaks : (l : List Bool) → Decided (Breaks l)
  breaks l =
      decided_either (decided_below (commands program) (λ position. (x : ℕ) × SinkReads program position x × (is_in l x ≡ true))
      (λ position. decided_sink program position (λ x. is_in l x ≡ true) (λ x. decided_true (is_in l x))))
      (decided_either
      (decided_below (variables program) (λ x. (asked.transient x ≡ true) × (is_in l x ≡ false)) (λ x. decided_both (decided_true (asked.transient x)) (decided_false (is_in l x))))
      (decided_below (length l) (λ x. (asked.stable x ≡ true) × (is_in l x ≡ true)) (λ x. decided_both (decided_true (asked.stable x)) (decided_true (is_in l x)))))

  is_valid : List Bool → Bool
  is_valid l = not (holds (breaks l))

  listed_within : (l : List Bool) (x : ℕ) → is_in l x ≡ true → x < length l
  listed_within l x e =
      elim (cases_lt x (length l)) as (λ _. x < length l) [
        | inl lt ↦ lt
        | inr past ↦ absurd (false≢true (sym (Rattle.std.proofs.lemmas.List.get_or_past l x false past) ∙ e))
      ]

  valid_if : (l : List Bool) → is_valid l ≡ true → Valid (is_in l)
  unfolding is_valid
  valid_if l h =
      let none : Breaks l → ⊥ = λ b. never_both (holds (breaks l)) (holds_if (breaks l) b) h in
      record {
        sinks = λ position x sink. false_from_ne_true (is_in l x) (λ e. none (inl (position, stands_below program position (λ command. Among (sunk_by command) x) sink, (x, sink, e))));
        transient = λ x transient. elim (cases_Bool (is_in l x)) as (λ _. is_in l x ≡ true) [ inl e ↦ e | inr e ↦ absurd (none (inr (inl (x, transients x transient, (transient, e))))) ];
        stable = λ x stable. false_from_ne_true (is_in l x) (λ e. none (inr (inr (x, listed_within l x e, (stable, e)))));
      }

  unbroken : (l : List Bool) → Valid (is_in l) → Breaks l → ⊥
  unbroken l valid (inl s) = false≢true (sym (valid.sinks s.0 s.2.0 s.2.1) ∙ s.2.2)
  unbroken l valid (inr (inl h)) = false≢true (sym h.2.1 ∙ valid.transient h.0 h.2.0)
  unbroken l valid (inr (inr f)) = false≢true (sym (valid.stable f.0 f.2.0) ∙ f.2.1)

  valid_then : (l : List Bool) → Valid (is_in l) → is_valid l ≡ true
  unfolding is_valid
  valid_then l valid = not_from_false (holds (breaks l)) (false_from_ne_true (holds (breaks l)) (λ h. unbroken l valid (if_holds (breaks l) h)))

  -- a typing of least measure
  record IsBest (t : ℕ → Bool) : Type 0 where
    tight : Small t
    valid : Valid t
    least : (u : ℕ → Bool) → Small u → Valid u → measure t ≤ measure u

  same_table : (u : ℕ → Bool) → Small u → is_in (tabulate (variables program) u) ≡ u
  same_table u small = λ i x. is_in_table (variables program) u small x i

  best : (t : ℕ → Bool) × IsBest t
  best =
      elim (best_or_none is_valid (λ l. measure (is_in l)) (all_lists (variables program))) as (λ _. (t : ℕ → Bool) × IsBest t) [
        | inl found ↦ (
          is_in found.0,
          record {
            tight = λ x past. Rattle.std.proofs.lemmas.List.get_or_past found.0 x false (let e = listed_length (variables program) found.0 found.1.2 in omega arith);
            valid = valid_if found.0 found.1.0;
            least = λ u small valid.
                let table : List Bool = tabulate (variables program) u in
                let same = same_table u small in
                subst (λ v. measure (is_in found.0) ≤ measure v) same (found.1.1 table (listed_table (variables program) u) (valid_then table (subst Valid (sym same) valid)));
          },
        )
        | inr none ↦
            let table : List Bool = tabulate (variables program) asked.transient in
            absurd (none table (listed_table (variables program) asked.transient) (valid_then table (subst Valid (sym (same_table asked.transient asked_small)) asked_valid)))
      ]
    where
      asked_small : Small asked.transient
      asked_small x past = false_from_ne_true (asked.transient x) (λ transient. let lt = transients x transient in omega arith)

      asked_valid : Valid asked.transient
      asked_valid = record {
        sinks = λ position x sink. false_from_ne_true (asked.transient x) (λ transient. apart x transient (inl (position, sink)));
        transient = λ x transient. transient;
        stable = λ x stable. false_from_ne_true (asked.transient x) (λ transient. apart x transient (inr stable));
      }

  module _ (t : ℕ → Bool) (is_best : IsBest t) (other : ℕ → Bool) (sites : AreSites program other) (passes : PassesUnder asked program other) where
    abbrev theirs : ℕ → Bool
    theirs = least_typing asked program other

    trans_small : (x : ℕ) → TransUnder asked program other x → x < (variables program)
    trans_small x (loaded s _ load writes may) = (is.writes s x writes).1
    trans_small x (moved s y _ reads writes may before) = (is.writes s x writes).1
    trans_small x (given _ transient) = transients x transient

    small : Small theirs
    small x past = false_from_ne_true (theirs x) (λ h. let lt = trans_small x (typing_trans asked program other x h) in omega arith)

    valid : Valid theirs
    valid = record {
      sinks = λ position x sink. false_from_ne_true (theirs x) (λ h. passing_sinks asked program other passes position x sink (typing_trans asked program other x h));
      transient = λ x transient. is_trans asked program other x (given x transient);
      stable = λ x stable. false_from_ne_true (theirs x) (λ h. passing_stable asked program other passes x stable (typing_trans asked program other x h));
    }

    crossed_in : (s : ℕ) → crossed_by program theirs s ≡ true → other s ≡ true
    crossed_in s h =
        let parts = and_parts (feeds program theirs s) (writes_stable program theirs s) h in
        let how = stable_how program theirs s parts.1 in
        let keeps = least_assigns asked program other in
        elim (cases_Bool (other s)) as (λ _. other s ≡ true) [
          | inl e ↦ e
          | inr e ↦
              let may = not_from_false (other s) e in
              let transient : theirs how.0 ≡ true = elim (fed_how program theirs s parts.0) as (λ _. theirs how.0 ≡ true) [
                | inl load ↦ keeps.loads s how.0 load how.1 may
                | inr r ↦ keeps.moves s r.0 how.0 r.1 how.1 may r.2
              ] in
              absurd (false≢true (sym how.2 ∙ transient))
        ]

    no_heavier : weight_of program (crossed_by program theirs) ≤ weight_of program other
    no_heavier = sum_le (commands program) (λ s. amount_if (crossed_by program theirs s) (unwrap_or (site_weight program s) 0)) (λ s. amount_if (other s) (unwrap_or (site_weight program s) 0)) (λ s _. if_more (crossed_by program theirs s) (other s) (unwrap_or (site_weight program s) 0) (crossed_in s))

    weighs_least : (u : ℕ → Bool) → Small u → Valid u → weight_of program (crossed_by program t) ≤ weight_of program (crossed_by program u)
    weighs_least u small_ valid_ = by_weight (weight_of program (crossed_by program t)) (weight_of program (crossed_by program u)) (count t) (count u) (variables program) (count_most u) (is_best.least u small_ valid_)

    lightest : weight_of program (crossed_by program t) ≤ weight_of program other
    lightest = let least = weighs_least theirs small valid in let most = no_heavier in omega arith

    module _ (same : weight_of program (crossed_by program t) ≡ weight_of program other) where
      both_small : Small (both t theirs)
      both_small x past = and_left (t x) (theirs x) (is_best.tight x past)

      both_valid : Valid (both t theirs)
      both_valid = record {
        sinks = λ position x sink. and_left (t x) (theirs x) (is_best.valid.sinks position x sink);
        transient = λ x transient. and_from (t x) (theirs x) (is_best.valid.transient x transient) (valid.transient x transient);
        stable = λ x stable. and_left (t x) (theirs x) (is_best.valid.stable x stable);
      }

      either_small : Small (either t theirs)
      either_small x past = or_from (t x) (theirs x) (is_best.tight x past) (small x past)

      either_valid : Valid (either t theirs)
      either_valid = record {
        sinks = λ position x sink. or_from (t x) (theirs x) (is_best.valid.sinks position x sink) (valid.sinks position x sink);
        transient = λ x transient. or_left (t x) (theirs x) (is_best.valid.transient x transient);
        stable = λ x stable. or_from (t x) (theirs x) (is_best.valid.stable x stable) (valid.stable x stable);
      }

      both_weigh : weight_of program (crossed_by program t) ≡ weight_of program (crossed_by program (both t theirs))
      both_weigh =
          let sum = submodular t theirs in
          let one = weighs_least (both t theirs) both_small both_valid in
          let two = weighs_least (either t theirs) either_small either_valid in
          let most = no_heavier in
          omega arith

      counts : count t ≤ count (both t theirs)
      counts = by_count (weight_of program (crossed_by program t)) (weight_of program (crossed_by program (both t theirs))) (count t) (count (both t theirs)) (variables program) both_weigh (is_best.least (both t theirs) both_small both_valid)

      once_and : (a b : Bool) → once (a && b) ≤ once a
      once_and true b = once_most b
      once_and false b = omega arith

      once_same : (a b : Bool) → once (a && b) ≡ once a → a ≡ true → b ≡ true
      once_same true true e h = refl
      once_same true false e h = absurd (omega arith)
      once_same false b e h = absurd (false≢true h)

      contained : (x : ℕ) → t x ≡ true → theirs x ≡ true
      contained x h =
          elim (cases_lt x (variables program)) as (λ _. theirs x ≡ true) [
            | inl lt ↦ once_same (t x) (theirs x) (sum_tight (variables program) (λ k. once (both t theirs k)) (λ k. once (t k)) (λ k _. once_and (t k) (theirs k)) counts x lt) h
            | inr past ↦ absurd (false≢true (sym (is_best.tight x past) ∙ h))
          ]

  -- some set is least
  pub some_least : (set : ℕ → Bool) × LeastUnder asked program set
  some_least =
      let t : ℕ → Bool = best.0 in
      let is_best : IsBest t = best.1 in (
        crossed_by program t,
        record {
          sites = crossed_sites t;
          passes = crossed_passes t is_best.valid;
          lightest = λ other sites passes. lightest t is_best other sites passes;
          nearest = λ other sites passes same x trans.
              typing_trans asked program other x (contained t is_best other sites passes same x (trans_least asked program t (crossed_by program t) x (crossed_assigns t is_best.valid) trans));
        },
      )
