-- What lists ask of variables, by numbers.
use Rattle.std.proofs.Common.{◌≡◌, ℕ, ◌+◌, ◌<◌, Bool, true, false, List, [], ◌∷◌, ◌++◌, length, take, set, Some, slice_get, nat_eq, refl, sym, subst, ◌∙◌, arith, inl, inr}
use Rattle.std.specs.Prelude.{IsTrue, ◌↔◌, map}
use Rattle.std.specs.List.{All, Contains, list_any, slice_index_or}
use Rattle.std.proofs.lemmas.Bool.{cases_eq, eq-eqb, eqb-true}
use Rattle.std.proofs.lemmas.List.{get_or-set_same, get_or-set_other, take_more}
use Rattle.std.proofs.lemmas.List.Elements.{All-contains, Contains-append_left, Contains-push, Contains-push_cases}
use Rattle.std.proofs.lemmas.Option.{same_Some}
use Rattle.bl_base.proofs.Members.{from_map, in_map, listed, lists}
use Rattle.bl_graph.specs.Arcs.{is_in}
use Rattle.bl_graph.specs.Names.{place_of}
use Rattle.bl_graph.proofs.ChainLemmas.{all_from}
use Rattle.bl_graph.proofs.NameLemmas.{Rise, at_place, place_back, place_within}

-- ---- lists as tests

-- what a list asks is in it
pub asked_in : (vars : List ℕ) (x : ℕ) → IsTrue (list_any (nat_eq x) vars) → Contains vars x
asked_in vars x h =
    let found = listed (nat_eq x) vars h in
    subst (Contains vars) (sym (eqb-true x found.0 found.2)) found.1

-- what is in a list is asked
pub in_asked : (vars : List ℕ) (x : ℕ) → Contains vars x → IsTrue (list_any (nat_eq x) vars)
in_asked vars x h = lists (nat_eq x) vars x h (eq-eqb x x refl)

-- ---- their numbers

module _ (names : List ℕ) (rise : Rise names) (vars : List ℕ) (has : All (λ x. Contains names x) vars) where
  -- they are places of names
  pub numbers_within : All (λ i. i < length names) (map (place_of names) vars)
  numbers_within = all_from (λ i. i < length names) (map (place_of names) vars) (λ i h.
      let found = from_map (place_of names) vars i h in
      let lt = place_within names found.0 rise (All-contains (λ x. Contains names x) vars found.0 has found.1) in
      let e = found.2 in omega arith)

  -- each is that of a variable in the list
  pub number_back : (i : ℕ) → Contains (map (place_of names) vars) i → (x : ℕ) × (slice_get names i ≡ Some x) × Contains vars x
  number_back i h =
      let found = from_map (place_of names) vars i h in
      let at = at_place names found.0 rise (All-contains (λ x. Contains names x) vars found.0 has found.1) in
      (found.0, subst (λ k. slice_get names k ≡ Some found.0) found.2 at, found.1)

  -- and the number of each variable in the list is one
  pub number_of : (i x : ℕ) → slice_get names i ≡ Some x → Contains vars x → Contains (map (place_of names) vars) i
  number_of i x e h = subst (Contains (map (place_of names) vars)) (sym (place_back names i x rise e)) (in_map (place_of names) vars x h)

  -- so they are exactly those of what is asked
  pub asked_back : (i : ℕ) → Contains (map (place_of names) vars) i → (x : ℕ) × (slice_get names i ≡ Some x) × IsTrue (list_any (nat_eq x) vars)
  asked_back i h = let back = number_back i h in (back.0, back.1, in_asked vars back.0 back.2)

  pub asked_there : (i x : ℕ) → slice_get names i ≡ Some x → IsTrue (list_any (nat_eq x) vars) → Contains (map (place_of names) vars) i
  asked_there i x e h = number_of i x e (asked_in vars x h)

  pub numbered_asked : (i x : ℕ) → slice_get names i ≡ Some x → Contains (map (place_of names) vars) i ↔ IsTrue (list_any (nat_eq x) vars)
  numbered_asked i x e = (
    (λ h. let back = number_back i h in in_asked vars x (subst (Contains vars) (same_Some back.0 x (sym back.1 ∙ e)) back.2)),
    (λ h. number_of i x e (asked_in vars x h)),
  )

-- ---- marks, number by number

-- the marks are those of the numbers
abbrev pub Marks : List ℕ → List Bool → Type 0
Marks numbers marks = (i : ℕ) → IsTrue (is_in marks i) ↔ Contains numbers i

-- one number more is marked
pub marks_more : (numbers : List ℕ) (k d : ℕ) (marks : List Bool) → k < length numbers → slice_index_or numbers k d < length marks → Marks (take k numbers) marks
    → Marks (take (k + 1) numbers) (set marks (slice_index_or numbers k d) true)
marks_more numbers k d marks lt within so_far i =
    let u : ℕ = slice_index_or numbers k d in
    let more : take (k + 1) numbers ≡ take k numbers ++ u ∷ [] = take_more numbers k d lt in
    elim (cases_eq i u) as (λ _. IsTrue (is_in (set marks u true) i) ↔ Contains (take (k + 1) numbers) i) [
      | inl same ↦ (
        (λ h. subst (λ l. Contains l i) (sym more) (subst (Contains (take k numbers ++ u ∷ [])) (sym same) (Contains-push (take k numbers) u))),
        (λ h. subst (λ v. IsTrue (is_in (set marks u true) v)) (sym same) (get_or-set_same marks u true false within)),
      )
      | inr other ↦
          let value : is_in (set marks u true) i ≡ is_in marks i = get_or-set_other marks u i true false other in (
            (λ h. subst (λ l. Contains l i) (sym more) (Contains-append_left (take k numbers) (u ∷ []) i ((so_far i).0 (sym value ∙ h)))),
            (λ h. elim (Contains-push_cases (take k numbers) u i (subst (λ l. Contains l i) more h)) as (λ _. IsTrue (is_in (set marks u true) i)) [
              | inl there ↦ value ∙ (so_far i).1 there
              | inr e ↦ absurd (other (sym e))
            ]),
          )
    ]
