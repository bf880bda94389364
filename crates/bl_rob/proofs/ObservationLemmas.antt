-- What is observed of directives, one by one.
use Rattle.std.proofs.Common.{◌≡◌, ℕ, suc, ◌+◌, ◌<◌, ◌≤◌, List, [], ◌∷◌, ◌++◌, length, drop, get_or, Option, Some, None, append-nil, append_assoc, refl, sym, ap, ◌∙◌, subst, arith}
use Rattle.std.proofs.Math.Seq.{drop-cons}
use Rattle.std.proofs.lemmas.List.{drop_all}
use Rattle.bl_base.specs.declared.start.Start.{Start}
use Rattle.bl_program.specs.declared.definitions.ProgramParts.{ProgramParts as Program}
use Rattle.bl_rob.specs.Machines.{State, directive_step, opening}
use Rattle.bl_rob.specs.Observations.{Rules, Observed, Observes, ObservesBy, after_by, go_on, observed, observed_by, reached, see}
use Rattle.bl_rob.specs.declared.directive.Directive.{Directive}
use Rattle.bl_rob.specs.declared.directive.Directive.TheVariants.{Fetch}
use Rattle.bl_rob.specs.declared.directive.Observation.{Observation}

module _ {O : Type 0} (rules : Rules O) (directives : List Directive) (old : State) where
  abbrev all : Observed O
  all = observed_by rules 1 directives old

  abbrev rest : ℕ → State → Observed O
  rest i s = observed_by rules (i + 1) (drop i directives) s

  -- what is observed so far, and of the rest, is what is observed of all
  pub record SoFar (i : ℕ) (made : List O) (s : State) : Type 0 where
    pub made_all : made ++ (rest i s).made ≡ all.made
    pub refused : (rest i s).refused ≡ all.refused
    pub leads : after_by rules (drop i directives) s ≡ after_by rules directives old

  module _ (i : ℕ) (directive d : Directive) (inside : i < length directives) (is : directive ≡ get_or directives i d) (made : List O) (s : State) (h : SoFar i made s) where
    here : drop i directives ≡ directive ∷ drop (i + 1) directives
    here =
        let next : suc i ≡ i + 1 = omega arith in
        drop-cons directives i d inside ∙ (λ k. sym is k ∷ drop (next k) directives)

    rest_by : (step : Option (State × O)) → rules s directive ≡ step
        → rest i s ≡ see (observed_by rules (i + 1 + 1) (drop (i + 1) directives)) (i + 1) step
    rest_by step e =
        let place : suc (i + 1) ≡ i + 1 + 1 = omega arith in
        ap (λ ds. observed_by rules (i + 1) ds s) here ∙ (λ k. see (observed_by rules (place k) (drop (i + 1) directives)) (i + 1) (e k))

    leads_by : (step : Option (State × O)) → rules s directive ≡ step
        → after_by rules (drop i directives) s ≡ go_on (after_by rules (drop (i + 1) directives)) s step
    leads_by step e = ap (λ ds. after_by rules ds s) here ∙ ap (go_on (after_by rules (drop (i + 1) directives)) s) e

    -- one more is enabled
    pub one_more : (t : State) (observation : O) → rules s directive ≡ Some (t, observation) → SoFar (i + 1) (made ++ observation ∷ []) t
    one_more t observation e =
        let by = rest_by (Some (t, observation)) e in
        record {
          made_all = append_assoc made (observation ∷ []) (rest (i + 1) t).made ∙ ap (λ (o : Observed O). made ++ o.made) (sym by) ∙ h.made_all;
          refused = ap (λ (o : Observed O). o.refused) (sym by) ∙ h.refused;
          leads = sym (leads_by (Some (t, observation)) e) ∙ h.leads;
        }

    -- it isn't enabled
    pub refused_here : rules s directive ≡ None → ObservesBy rules directives old (record { made = made; refused = Some (i + 1) }) s
    refused_here e =
        let by = rest_by None e in
        record {
          observed = λ k. record {
            made = (sym (append-nil made) ∙ ap (λ (o : Observed O). made ++ o.made) (sym by) ∙ h.made_all) k;
            refused = (ap (λ (o : Observed O). o.refused) (sym by) ∙ h.refused) k;
          };
          leads = sym (leads_by None e) ∙ h.leads;
        }

  -- all are
  pub whole : (i : ℕ) (made : List O) (s : State) → length directives ≤ i → SoFar i made s → ObservesBy rules directives old (record { made = made; refused = None }) s
  whole i made s le h =
      let none : drop i directives ≡ [] = drop_all i directives le in
      let by : rest i s ≡ record { made = []; refused = None } = ap (λ ds. observed_by rules (i + 1) ds s) none in
      record {
        observed = λ k. record {
          made = (sym (append-nil made) ∙ ap (λ (o : Observed O). made ++ o.made) (sym by) ∙ h.made_all) k;
          refused = (ap (λ (o : Observed O). o.refused) (sym by) ∙ h.refused) k;
        };
        leads = sym (ap (λ ds. after_by rules ds s) none) ∙ h.leads;
      }

-- a step of a loop over directives, whose program is the one that it began with
module _ {O : Type 0} (rules : Program → Rules O) (directives : List Directive) (old : State) (program q : Program) (same : q ≡ program) (i : ℕ) (inside : i < length directives) (made : List O) (s : State) (h : SoFar (rules program) directives old i made s) where
  pub more_by : (t : State) (observation : O) (these : List O) → rules q s (get_or directives i Fetch) ≡ Some (t, observation) → these ≡ made ++ observation ∷ []
      → SoFar (rules program) directives old (i + 1) these t
  more_by t observation these step is =
      subst (λ these. SoFar (rules program) directives old (i + 1) these t) (sym is)
      (one_more (rules program) directives old i (get_or directives i Fetch) Fetch inside refl made s h t observation (subst (λ p. rules p s (get_or directives i Fetch) ≡ Some (t, observation)) same step))

  pub refused_by : (t : State) → (rules q s (get_or directives i Fetch) ≡ None) × (t ≡ s) → ObservesBy (rules program) directives old (record { made = made; refused = Some (i + 1) }) t
  refused_by t refused =
      subst (ObservesBy (rules program) directives old (record { made = made; refused = Some (i + 1) })) (sym refused.1)
      (refused_here (rules program) directives old i (get_or directives i Fetch) Fetch inside refl made s h (subst (λ p. rules p s (get_or directives i Fetch) ≡ None) same refused.0))

-- what is observed of a machine from its opening is what is observed of the function's run
pub observed_so_by : {O : Type 0} (rules : Program → Rules O) (program q : Program) (function : ℕ) (start : Start) (directives : List Directive) (old new : State) (seen : Observed O)
    → q ≡ program → old ≡ opening program function start → ObservesBy (rules q) directives old seen new
    → (seen ≡ observed_by (rules program) 1 directives (opening program function start)) × (new ≡ after_by (rules program) directives (opening program function start))
observed_so_by rules program q function start directives old new seen same is o =
    let h : ObservesBy (rules program) directives (opening program function start) seen new
    = subst (λ p. ObservesBy (rules p) directives (opening program function start) seen new) same (subst (λ s. ObservesBy (rules q) directives s seen new) is o) in
    (h.observed, h.leads)

pub observed_so : (most : ℕ) (program q : Program) (function : ℕ) (start : Start) (directives : List Directive) (old new : State) (seen : Observed Observation) → q ≡ program
    → old ≡ opening program function start → Observes most q directives old seen new
    → (seen ≡ observed most program function start directives) × (new ≡ reached most program function start directives)
observed_so most = observed_so_by (directive_step most)
