-- A passing set of least weight holds exactly the fed sites that write a stable variable.
use Rattle.std.proofs.Common.{◌≡◌, ℕ, ◌+◌, ◌<◌, ◌≤◌, Bool, true, false, Option, Some, unwrap_or, sym, ap, subst, ◌∙◌, arith, ◌⊎◌, inl, inr, not, ◌&&◌, nat_eq}
use Rattle.std.specs.Prelude.{IsTrue, ◌↔◌}
use Rattle.std.proofs.lemmas.Bool.{cases_Bool, false≢true, not_from_false, not_from_true, false_from_ne_true, and_from, and_parts, eqb-true, eq-eqb, and_left, and_right, ne_eqb}
use Rattle.bl_base.proofs.Sums.{sum_change}
use Rattle.bl_base.proofs.BoolLemmas.{never_both}
use Rattle.bl_base.proofs.OptionLemmas.{some_value}
use Rattle.bl_program.specs.Sites.{site_weight, Writes, weight_of}
use Rattle.bl_program.specs.declared.definitions.ProgramParts.{ProgramParts as Program}
use Rattle.bl_graph.specs.Ranges.{commands, AreSites, AreInRange}
use Rattle.bl_graph.proofs.PathCounts.{amount_if}
use Rattle.bl_graph.proofs.FedSites.{feeds, writes_stable, crossed_by, fed_load, fed_read, fed_how, stable_write, stable_how}
use Rattle.bl_transient.specs.Transient.{Asked, PassesUnder, TransUnder, IsFedUnder}
use Rattle.bl_transient.proofs.LeastTypings.{is_trans, typing_trans, least_typing, least_assigns, fed_writes, passing_stable, passing_sinks}
use Rattle.bl_cut.specs.Least.{LeastUnder}

-- a set without one site
abbrev pub without : (ℕ → Bool) → ℕ → ℕ → Bool
without set s t = set t && not (nat_eq t s)

left_or_it : (set : ℕ → Bool) (s t : ℕ) → IsTrue (not (without set s t)) → (IsTrue (not (set t))) ⊎ (t ≡ s)
left_or_it set s t h =
    elim (cases_Bool (set t)) as (λ _. (IsTrue (not (set t))) ⊎ (t ≡ s)) [
      | inr e ↦ inl (not_from_false (set t) e)
      | inl e ↦
          elim (cases_Bool (nat_eq t s)) as (λ _. (IsTrue (not (set t))) ⊎ (t ≡ s)) [
            | inl q ↦ inr (eqb-true t s q)
            | inr q ↦ absurd (never_both (without set s t) (and_from (set t) (not (nat_eq t s)) e (not_from_false (nat_eq t s) q)) h)
          ]
    ]

module _ (asked : Asked) (program : Program) (is : AreInRange program) (set : ℕ → Bool) (sites : AreSites program set) where
  without_sites : (s : ℕ) → AreSites program (without set s)
  without_sites s t h = sites t (and_parts (set t) (not (nat_eq t s)) h).0

  same_elsewhere : (s t : ℕ) → (t ≡ s → ⊥) → set t ≡ without set s t
  same_elsewhere s t other =
      elim (cases_Bool (set t)) as (λ _. set t ≡ without set s t) [
        | inl e ↦ e ∙ sym (and_from (set t) (not (nat_eq t s)) e (not_from_false (nat_eq t s) (ne_eqb t s other)))
        | inr e ↦ e ∙ sym (and_left (set t) (not (nat_eq t s)) e)
      ]

  -- a site less weighs less
  lighter : (s : ℕ) → IsTrue (set s) → weight_of program (without set s) < weight_of program set
  lighter s h =
      let some = sites s h in
      let w = some_value (site_weight program s) some in
      let positive = is.weights s w.0 w.1 in
      let gone : without set s s ≡ false = and_right (set s) (not (nat_eq s s)) (not_from_true (nat_eq s s) (eq-eqb s s Rattle.std.proofs.Common.refl)) in
      let here : amount_if (set s) (unwrap_or (site_weight program s) 0) ≡ amount_if (without set s s) (unwrap_or (site_weight program s) 0) + w.0 =
      ap (λ b. amount_if b (unwrap_or (site_weight program s) 0)) h ∙ (ap (λ o. unwrap_or o 0) w.1 ∙ sym (ap (λ b. amount_if b (unwrap_or (site_weight program s) 0) + w.0) gone ∙ omega arith)) in
      let sum = sum_change (commands program) (λ t. amount_if (without set s t) (unwrap_or (site_weight program t) 0)) (λ t. amount_if (set t) (unwrap_or (site_weight program t) 0)) s w.0 (is.sites s some) here
      (λ t lt other. ap (λ b. amount_if b (unwrap_or (site_weight program t) 0)) (same_elsewhere s t other)) in
      omega arith

  abbrev transient : ℕ → Bool
  transient = least_typing asked program set

  -- a fed site that writes a stable variable
  abbrev pub IsNeeded : ℕ → Type 0
  IsNeeded s = IsFedUnder asked program set s × ((x : ℕ) × Writes program s x × (TransUnder asked program set x → ⊥))

  fed_is : (s : ℕ) → feeds program transient s ≡ true → IsFedUnder asked program set s
  fed_is s h =
      elim (fed_how program transient s h) as (λ _. IsFedUnder asked program set s) [
        | inl load ↦ inl load
        | inr r ↦ inr (r.0, r.1, typing_trans asked program set r.0 r.2)
      ]

  needed_if : (s : ℕ) → feeds program transient s ≡ true → writes_stable program transient s ≡ true → IsNeeded s
  needed_if s fed cool =
      let how = stable_how program transient s cool in
      (fed_is s fed, (how.0, how.1, λ t. false≢true (sym how.2 ∙ is_trans asked program set how.0 t)))

  module _ (passes : PassesUnder asked program set) (s : ℕ) (idle : crossed_by program transient s ≡ false) where
    all_trans : (x : ℕ) → Writes program s x → feeds program transient s ≡ true → transient x ≡ true
    all_trans x writes fed =
        elim (cases_Bool (transient x)) as (λ _. transient x ≡ true) [
          | inl e ↦ e
          | inr e ↦ absurd (false≢true (sym idle ∙ and_from (feeds program transient s) (writes_stable program transient s) fed (stable_write program transient s x writes e)))
        ]

    -- without such a site the set passes
    still_passes : PassesUnder asked program (without set s)
    still_passes =
        let keeps = least_assigns asked program set in (
          transient,
          record {
            assigns = record {
              loads = λ t x load writes may. elim (left_or_it set s t may) as (λ _. IsTrue (transient x)) [
                | inl free ↦ keeps.loads t x load writes free
                | inr e ↦ all_trans x (subst (λ u. Writes program u x) e writes) (subst (λ u. feeds program transient u ≡ true) e (fed_load program transient t load))
              ];
              moves = λ t x y reads writes may h. elim (left_or_it set s t may) as (λ _. IsTrue (transient y)) [
                | inl free ↦ keeps.moves t x y reads writes free h
                | inr e ↦ all_trans y (subst (λ u. Writes program u y) e writes) (subst (λ u. feeds program transient u ≡ true) e (fed_read program transient t x reads h))
              ];
              given = keeps.given;
            };
            sinks = λ position x sink. not_from_false _ (false_from_ne_true _ (λ h. passing_sinks asked program set passes position x sink (typing_trans asked program set x h)));
            stable = λ x stable. not_from_false _ (false_from_ne_true _ (λ h. passing_stable asked program set passes x stable (typing_trans asked program set x h)));
          },
        )

  -- each site of a lightest passing set is needed
  pub each_needed : PassesUnder asked program set → ((other : ℕ → Bool) → AreSites program other → PassesUnder asked program other → weight_of program set ≤ weight_of program other) → (s : ℕ) → IsTrue (set s) → IsNeeded s
  each_needed passes lightest s h =
      elim (cases_Bool (crossed_by program transient s)) as (λ _. IsNeeded s) [
        | inl e ↦ let parts = and_parts (feeds program transient s) (writes_stable program transient s) e in needed_if s parts.0 parts.1
        | inr e ↦
            let most = lightest (without set s) (without_sites s) (still_passes passes s e) in
            let less = lighter s h in
            absurd (omega arith)
      ]

  -- and each needed site is in the set
  pub needed_in : (s : ℕ) → IsNeeded s → IsTrue (set s)
  needed_in s needed =
      elim (cases_Bool (set s)) as (λ _. IsTrue (set s)) [
        | inl e ↦ e
        | inr e ↦ absurd (needed.1.2 (fed_writes asked program set s needed.1.0 needed.0 needed.1.1 (not_from_false (set s) e)))
      ]

module _ (asked : Asked) (program : Program) (is : AreInRange program) where
  -- what a least set holds
  pub holds_needed : (set : ℕ → Bool) → LeastUnder asked program set → (s : ℕ) → IsTrue (set s) ↔ (IsFedUnder asked program set s × ((x : ℕ) × Writes program s x × (TransUnder asked program set x → ⊥)))
  holds_needed set least s = (each_needed asked program is set least.sites least.passes least.lightest s, needed_in asked program is set least.sites s)

  abbrev same_weight : (one two : ℕ → Bool) → LeastUnder asked program one → LeastUnder asked program two → weight_of program one ≡ weight_of program two
  same_weight one two a b =
      let most = a.lightest two b.sites b.passes in
      let least = b.lightest one a.sites a.passes in
      omega arith

  fed_too : (one two : ℕ → Bool) → ((x : ℕ) → TransUnder asked program one x → TransUnder asked program two x) → (s : ℕ) → IsFedUnder asked program one s → IsFedUnder asked program two s
  fed_too one two on s (inl load) = inl load
  fed_too one two on s (inr r) = inr (r.0, r.1, on r.0 r.2)

  into : (one two : ℕ → Bool) → LeastUnder asked program one → LeastUnder asked program two → (s : ℕ) → IsTrue (one s) → IsTrue (two s)
  into one two a b s h =
      let needed = each_needed asked program is one a.sites a.passes a.lightest s h in
      let same = same_weight one two a b in
      needed_in asked program is two b.sites s (
        fed_too one two (a.nearest two b.sites b.passes same) s needed.0,
        (needed.1.0, needed.1.1, λ t. needed.1.2 (b.nearest one a.sites a.passes (sym same) needed.1.0 t)),
      )

  -- no two sets are least
  pub only_one : (one two : ℕ → Bool) → LeastUnder asked program one → LeastUnder asked program two → (s : ℕ) → one s ≡ two s
  only_one one two a b s =
      elim (cases_Bool (one s)) as (λ _. one s ≡ two s) [
        | inl e ↦ e ∙ sym (into one two a b s e)
        | inr e ↦ e ∙ sym (false_from_ne_true (two s) (λ h. false≢true (sym e ∙ into two one b a s h)))
      ]
