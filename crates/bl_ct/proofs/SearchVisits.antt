-- A search with a queue of steps, one visit at a time.
use Rattle.std.proofs.Common.{◌≡◌, ℕ, suc, zero, ◌+◌, ◌<◌, ◌≤◌, ◌-◌, Bool, true, false, List, [], ◌∷◌, ◌++◌, length, set, cond, refl, sym, ap, subst, ◌∙◌, arith, ◌⊎◌, inl, inr, not, nat_eq, Option, Some, replicate, length-append, length-set}
use Rattle.std.specs.Prelude.{IsTrue, ◌↔◌}
use Rattle.std.specs.List.{Contains, slice_get, slice_index_or}
use Rattle.std.proofs.lemmas.Bool.{cases_lt, cases_eq, eqb-true, eq-eqb, false≢true}
use Rattle.std.proofs.lemmas.List.{get_or_append_left, get_or-append-add, length-replicate, append_assoc, append-nil}
use Rattle.std.proofs.lemmas.List.Sums.{sum_by-set}
use Rattle.std.proofs.lemmas.List.Elements.{Contains-push_cases, Contains-append_left, Contains-append_right, Contains-append_cases, Contains-push}
use Rattle.std.proofs.lemmas.Option.{slice_get_within, get_or_from_slice_get, slice_get-get_or, same_Some}
use Rattle.bl_base.proofs.Lists.{replicate_or}
use Rattle.bl_base.proofs.Members.{none_in, listed, lists}
use Rattle.bl_program.specs.declared.definitions.ProgramParts.{ProgramParts as Program}
use Rattle.bl_ct.specs.declared.search.Step.{Step}
use Rattle.bl_ct.specs.declared.search.Cause.{Cause}
use Rattle.bl_ct.specs.declared.search.Cause.TheVariants.{Declared, Loaded, Moved}
use Rattle.bl_program.specs.Sites.{Writes, Reads}
use Rattle.bl_graph.specs.Labels.{Secret, declared, loaded, moved}
use Rattle.bl_graph.specs.Names.{place_of}
use Rattle.bl_ct.specs.Facts.{AreFacts}
use Rattle.bl_ct.specs.declared.facts.Facts.{Facts}
use Rattle.bl_graph.specs.Arcs.{unmarked}
use Rattle.bl_ct.specs.SecretSearch.{IsTable, Visits, Some_fits, Some_asks, IsFoundBy, entry_at, is_found, mark_of, Has, IsJustifiedBy, AreJustified, SearchState, Searched}
use Rattle.bl_ct.proofs.NameTables.{at_name, at_others, table_within}

-- ---- whether a step found a variable

pub found_step : (steps : List Step) (x : ℕ) → IsTrue (is_found steps x) → (step : Step) × Contains steps step × (step.var ≡ x)
found_step steps x h = let s = listed (λ (step : Step). nat_eq step.var x) steps h in (s.0, s.1, eqb-true s.0.var x s.2)

pub step_found : (steps : List Step) (step : Step) → Contains steps step → IsTrue (is_found steps step.var)
step_found steps step h = lists (λ (s : Step). nat_eq s.var step.var) steps step h (eq-eqb step.var step.var refl)

-- ---- visits

-- where all that is asked for is marked, nothing is queued
pub visits_all : (names : List ℕ) (fits : Step → Type 0) (asks : ℕ → Type 0) (marks : List Bool) (queue : List Step) → ((v : ℕ) → asks v → IsTrue (mark_of names marks v)) → Visits names fits asks marks marks queue queue
visits_all names fits asks marks queue there = record {
  added = [];
  front = sym (append-nil queue);
  places = refl;
  kept = λ v h. h;
  taken = there;
  from = λ v h. inl h;
  marked = λ step h. absurd (none_in step h);
  causes = λ step h. absurd (none_in step h);
  counts = refl;
}

-- what one more element asks for is visited
pub visits_push : {A : Type 0} (names : List ℕ) (fits : A → Step → Type 0) (asks : A → ℕ → Type 0) (xs : List A) (x : A) (a b c : List Bool) (p q r : List Step)
    → Visits names (Some_fits xs fits) (Some_asks xs asks) a b p q → Visits names (fits x) (asks x) b c q r → Visits names (Some_fits (xs ++ x ∷ []) fits) (Some_asks (xs ++ x ∷ []) asks) a c p r
visits_push names fits asks xs x a b c p q r one two = record {
  added = one.added ++ two.added;
  front = two.front ∙ ap (λ l. l ++ two.added) one.front ∙ append_assoc p one.added two.added;
  places = two.places ∙ one.places;
  kept = λ v h. two.kept v (one.kept v h);
  taken = λ v h. elim (Contains-push_cases xs x h.0 h.1) as (λ _. IsTrue (mark_of names c v)) [
    | inl there ↦ two.kept v (one.taken v (h.0, there, h.2))
    | inr e ↦ two.taken v (subst (λ y. asks y v) (sym e) h.2)
  ];
  from = λ v h. elim (two.from v h) as (λ _. IsTrue (mark_of names a v) ⊎ ((step : Step) × Contains (one.added ++ two.added) step × (step.var ≡ v))) [
    | inl before ↦ elim (one.from v before) as (λ _. IsTrue (mark_of names a v) ⊎ ((step : Step) × Contains (one.added ++ two.added) step × (step.var ≡ v))) [ inl was ↦ inl was | inr s ↦ inr (s.0, Contains-append_left one.added two.added s.0 s.1, s.2) ]
    | inr s ↦ inr (s.0, Contains-append_right one.added two.added s.0 s.1, s.2)
  ];
  marked = λ step h. elim (Contains-append_cases one.added two.added step h) as (λ _. IsTrue (mark_of names c step.var)) [ inl s ↦ two.kept step.var (one.marked step s) | inr s ↦ two.marked step s ];
  causes = λ step h. elim (Contains-append_cases one.added two.added step h) as (λ _. Some_fits (xs ++ x ∷ []) fits step) [
    | inl s ↦ let f = one.causes step s in (f.0, Contains-append_left xs (x ∷ []) f.0 f.1, f.2)
    | inr s ↦ (x, Contains-push xs x, two.causes step s)
  ];
  counts = two.counts ∙ one.counts;
}

-- a variable that is marked already
pub visits_no : (names : List ℕ) (step : Step) (marks : List Bool) (queue : List Step) → IsTrue (mark_of names marks step.var) → Visits names (λ s. s ≡ step) (λ v. v ≡ step.var) marks marks queue queue
visits_no names step marks queue there = visits_all names (λ s. s ≡ step) (λ v. v ≡ step.var) marks queue (λ v e. subst (λ w. IsTrue (mark_of names marks w)) (sym e) there)

-- the variable that a site writes
pub visits_written : (names : List ℕ) (x : ℕ) (cause : Cause) (a b : List Bool) (p q : List Step) → Visits names (λ s. s ≡ record { var = x; cause = cause }) (λ v. v ≡ x) a b p q
    → Visits names (IsFoundBy (Some x) cause) (λ v. Some x ≡ Some v) a b p q
visits_written names x cause a b p q visit = record {
  added = visit.added;
  front = visit.front;
  places = visit.places;
  kept = visit.kept;
  taken = λ v e. visit.taken v (sym (same_Some x v e));
  from = visit.from;
  marked = visit.marked;
  causes = λ step h. let e = visit.causes step h in (ap (λ (s : Step). Some s.var) (sym e), ap (λ (s : Step). s.cause) e);
  counts = visit.counts;
}

-- 1 for what is not marked
abbrev missing : Bool → ℕ
missing b = cond (not b) 1 0

module _ (names : List ℕ) (step : Step) (marks : List Bool) (queue : List Step) (fresh : mark_of names marks step.var ≡ false) (table : IsTable names marks) (has : Contains names step.var) where
  abbrev after : List Bool
  after = set marks (place_of names step.var) true

  here_now : IsTrue (mark_of names after step.var)
  here_now = at_name names marks table step.var has true false

  elsewhere : (v : ℕ) → (v ≡ step.var → ⊥) → mark_of names after v ≡ mark_of names marks v
  elsewhere v apart = at_others names marks table step.var has true false v apart

  only : (s : Step) → Contains (step ∷ []) s → s ≡ step
  only s h = elim (Contains-push_cases [] step s h) as (λ _. s ≡ step) [ inl there ↦ absurd (none_in s there) | inr e ↦ sym e ]

  one_less : unmarked after + length (queue ++ step ∷ []) ≡ unmarked marks + length queue
  one_less =
      let longer = length-append queue (step ∷ []) in
      let counts = sum_by-set missing marks (place_of names step.var) true false (table_within names marks table step.var has) in
      let one : missing (mark_of names marks step.var) ≡ 1 = ap missing fresh in
      omega arith

  -- a variable that wasn't marked
  pub visits_yes : Visits names (λ s. s ≡ step) (λ v. v ≡ step.var) marks after queue (queue ++ step ∷ [])
  visits_yes = record {
    added = step ∷ [];
    front = refl;
    places = length-set marks (place_of names step.var) true;
    kept = λ v h. elim (cases_eq v step.var) as (λ _. IsTrue (mark_of names after v)) [ inl e ↦ subst (λ w. IsTrue (mark_of names after w)) (sym e) here_now | inr apart ↦ elsewhere v apart ∙ h ];
    taken = λ v e. subst (λ w. IsTrue (mark_of names after w)) (sym e) here_now;
    from = λ v h. elim (cases_eq v step.var) as (λ _. IsTrue (mark_of names marks v) ⊎ ((s : Step) × Contains (step ∷ []) s × (s.var ≡ v))) [
      | inl e ↦ inr (step, Contains-push [] step, sym e)
      | inr apart ↦ inl (sym (elsewhere v apart) ∙ h)
    ];
    marked = λ s h. subst (λ t. IsTrue (mark_of names after t.var)) (sym (only s h)) here_now;
    causes = λ s h. only s h;
    counts = one_less;
  }

-- places of a queue
pub has_left : (q a : List Step) (place : ℕ) (step : Step) → Has q place step → Has (q ++ a) place step
has_left q a place step h =
    let lt = slice_get_within q place step h in
    let long = length-append q a in
    slice_get-get_or (q ++ a) place step (omega arith) ∙ ap Some (get_or_append_left q a step place lt ∙ get_or_from_slice_get q place step step h)

pub has_in : (q : List Step) (place : ℕ) (step : Step) → Has q place step → Contains q step
has_in q place step h = (place, slice_get_within q place step h, get_or_from_slice_get q place step step h)

pub in_has : (q : List Step) (step : Step) → Contains q step → (place : ℕ) × (place < length q) × Has q place step
in_has q step h = (h.0, h.1, slice_get-get_or q h.0 step h.1 ∙ ap Some h.2)

pub has_cases : (q a : List Step) (place : ℕ) (step : Step) → Has (q ++ a) place step → (Has q place step) ⊎ ((length q ≤ place) × Contains a step)
has_cases q a place step h =
    let long = length-append q a in
    let lt = slice_get_within (q ++ a) place step h in
    let got = get_or_from_slice_get (q ++ a) place step step h in
    elim (cases_lt place (length q)) as (λ _. (Has q place step) ⊎ ((length q ≤ place) × Contains a step)) [
      | inl less ↦ inl (slice_get-get_or q place step less ∙ ap Some (sym (get_or_append_left q a step place less) ∙ got))
      | inr past ↦
          let k : ℕ = place - length q in
          let e : length q + k ≡ place = omega arith in
          inr (omega arith, (k, omega arith, sym (get_or-append-add q a k step) ∙ ap (λ i. slice_index_or (q ++ a) i step) e ∙ got))
    ]

-- what stood stands in a longer queue
stands_left : (program : Program) (q a : List Step) (place x : ℕ) (cause : Cause) → IsJustifiedBy program q place x cause → IsJustifiedBy program (q ++ a) place x cause
stands_left program q a place x (Declared origin) h = h
stands_left program q a place x (Loaded s memory) h = h
stands_left program q a place x (Moved s before) h = (h.0, (h.1.0, has_left q a before h.1.0 h.1.1, h.1.2, h.1.3))

stands_more : (program : Program) (q a more : List Step) → more ≡ q ++ a → AreJustified program q → ((place : ℕ) (step : Step) → length q ≤ place → Contains a step → IsJustifiedBy program (q ++ a) place step.var step.cause) → AreJustified program more
stands_more program q a more front old new = subst (AreJustified program) (sym front) (λ place step h.
    elim (has_cases q a place step h) as (λ _. IsJustifiedBy program (q ++ a) place step.var step.cause) [
      | inl there ↦ stands_left program q a place step.var step.cause (old place step there)
      | inr behind ↦ new place step behind.0 behind.1
    ])

module _ (program : Program) (facts : Facts) (are : AreFacts program facts) (names : List ℕ) (written : List (Option ℕ)) (writes : (s x : ℕ) → (entry_at written s ≡ Some x) ↔ Writes program s x) where
  -- all but causes, after a visit
  queued_more : (fits : Step → Type 0) (asks : ℕ → Type 0) (old new : List Bool) (q more : List Step) → Visits names fits asks old new q more → ((step : Step) → Contains q step → IsTrue (mark_of names old step.var)) → (step : Step) → Contains more step → IsTrue (mark_of names new step.var)
  queued_more fits asks old new q more visit all step h =
      elim (Contains-append_cases q visit.added step (subst (λ l. Contains l step) visit.front h)) as (λ _. IsTrue (mark_of names new step.var)) [
        | inl there ↦ visit.kept step.var (all step there)
        | inr there ↦ visit.marked step there
      ]

  back_more : (fits : Step → Type 0) (asks : ℕ → Type 0) (old new : List Bool) (q more : List Step) → Visits names fits asks old new q more → ((v : ℕ) → IsTrue (mark_of names old v) → (step : Step) × Contains q step × (step.var ≡ v)) → (v : ℕ) → IsTrue (mark_of names new v) → (step : Step) × Contains more step × (step.var ≡ v)
  back_more fits asks old new q more visit all v h =
      elim (visit.from v h) as (λ _. (step : Step) × Contains more step × (step.var ≡ v)) [
        | inl was ↦ let s = all v was in (s.0, subst (λ l. Contains l s.0) (sym visit.front) (Contains-append_left q visit.added s.0 s.1), s.2)
        | inr s ↦ (s.0, subst (λ l. Contains l s.0) (sym visit.front) (Contains-append_right q visit.added s.0 s.1), s.2)
      ]

  declared_stands : (q : List Step) (place : ℕ) (step : Step) → Some_fits facts.declared (λ d s. s ≡ record { var = d.var; cause = Declared d.origin }) step → IsJustifiedBy program q place step.var step.cause
  declared_stands q place step f = subst (λ s. IsJustifiedBy program q place s.var s.cause) (sym f.2) ((are.declared f.0).0 f.1)

  loaded_stands : (q : List Step) (place : ℕ) (step : Step) → Some_fits facts.loads (λ d. IsFoundBy (entry_at written d.at) (Loaded d.at d.memory)) step → IsJustifiedBy program q place step.var step.cause
  loaded_stands q place step f =
      let found = f.2 in
      subst (IsJustifiedBy program q place step.var) (sym found.1) ((are.loads f.0).0 f.1, (writes f.0.at step.var).0 found.0)

  pub search_begins : (none one two : List Bool) (first second : List Step) → none ≡ replicate (length names) false
      → Visits names (Some_fits facts.declared (λ d step. step ≡ record { var = d.var; cause = Declared d.origin })) (Some_asks facts.declared (λ d v. v ≡ d.var)) none one [] first
      → Visits names (Some_fits facts.loads (λ d. IsFoundBy (entry_at written d.at) (Loaded d.at d.memory))) (Some_asks facts.loads (λ d v. entry_at written d.at ≡ Some v)) one two first second
      → SearchState program names two second 0
  search_begins none one two first second clear by_declared by_loaded =
      let unmarked_ : (v : ℕ) → IsTrue (mark_of names none v) → ⊥ = λ v h. false≢true (sym (ap (λ l. mark_of names l v) clear ∙ replicate_or (length names) (place_of names v) false) ∙ h) in
      let queued_ = queued_more _ _ none one [] first by_declared (λ s h. absurd (none_in s h)) in
      let back_ = back_more _ _ none one [] first by_declared (λ v h. absurd (unmarked_ v h)) in
      record {
        places = by_loaded.places ∙ (by_declared.places ∙ (ap length clear ∙ length-replicate {A = Bool} (length names) false));
        in_order = omega arith;
        declared = λ x origin h. by_loaded.kept x (by_declared.taken x (record { var = x; origin = origin }, (are.declared (record { var = x; origin = origin })).1 h, refl));
        loaded = λ s memory x h w. by_loaded.taken x (record { at = s; memory = memory }, (are.loads (record { at = s; memory = memory })).1 h, (writes s x).1 w);
        queued = queued_more _ _ one two first second by_loaded queued_;
        back = back_more _ _ one two first second by_loaded back_;
        done = λ place step lt. absurd (omega arith);
        sound = stands_more program first by_loaded.added second by_loaded.front
            (stands_more program [] by_declared.added first by_declared.front (λ place step h. absurd (none_in step (has_in [] place step h))) (λ place step le h. declared_stands _ place step (by_declared.causes step h)))
            (λ place step le h. loaded_stands _ place step (by_loaded.causes step h));
      }

  module _ (marks : List Bool) (queue : List Step) (next : ℕ) (state : SearchState program names marks queue next) where
    moved_stands : (a sites : List ℕ) (added : List Step) (step : Step) → Has queue next step → ((s : ℕ) → Contains sites s → Reads program s step.var) → (place : ℕ) (new : Step) → length queue ≤ place
        → Some_fits sites (λ s. IsFoundBy (entry_at written s) (Moved s next)) new → IsJustifiedBy program (queue ++ added) place new.var new.cause
    moved_stands a sites added step has reads place new le f =
        let found = f.2 in
        let lt = slice_get_within queue next step has in
        subst (IsJustifiedBy program (queue ++ added) place new.var) (sym found.1) (omega arith, (step, has_left queue added next step has, reads f.0 f.1, (writes f.0 new.var).0 found.0))

    pub search_next : (new : List Bool) (more : List Step) (sites : List ℕ) (step : Step) → Has queue next step → ((s : ℕ) → Contains sites s ↔ Reads program s step.var)
        → Visits names (Some_fits sites (λ s. IsFoundBy (entry_at written s) (Moved s next))) (Some_asks sites (λ s v. entry_at written s ≡ Some v)) marks new queue more
        → SearchState program names new more (next + 1)
    search_next new more sites step has reads visit =
        let lt = slice_get_within queue next step has in
        let long : length more ≡ length queue + length visit.added = ap length visit.front ∙ length-append queue visit.added in
        record {
          places = visit.places ∙ state.places;
          in_order = omega arith;
          declared = λ x origin h. visit.kept x (state.declared x origin h);
          loaded = λ s memory x h w. visit.kept x (state.loaded s memory x h w);
          queued = queued_more _ _ marks new queue more visit state.queued;
          back = back_more _ _ marks new queue more visit state.back;
          done = λ place other below h s y r w.
              elim (has_cases queue visit.added place other (subst (λ l. Has l place other) visit.front h)) as (λ _. IsTrue (mark_of names new y)) [
                | inl there ↦ elim (cases_lt place next) as (λ _. IsTrue (mark_of names new y)) [
                  | inl less ↦ visit.kept y (state.done place other less there s y r w)
                  | inr last ↦
                      let e : place ≡ next = omega arith in
                      let both : Some other ≡ Some step = sym there ∙ ap (slice_get queue) e ∙ has in
                      let same : other ≡ step = same_Some other step both in
                      visit.taken y (s, (reads s).1 (subst (λ t. Reads program s t.var) same r), (writes s y).1 w)
                ]
                | inr behind ↦ absurd (let le = behind.0 in omega arith)
              ];
          sound = stands_more program queue visit.added more visit.front state.sound (λ place other le h. moved_stands [] sites visit.added step has (λ s. (reads s).0) place other le (visit.causes other h));
        }

    secret_by : (place x : ℕ) (cause : Cause) → ((before : ℕ) (step : Step) → before < place → Has queue before step → Secret program step.var) → IsJustifiedBy program queue place x cause → Secret program x
    secret_by place x (Declared origin) earlier h = declared x origin h
    secret_by place x (Loaded s memory) earlier h = loaded s memory x h.0 h.1
    secret_by place x (Moved s before) earlier h = moved s h.1.0.var x h.1.2 h.1.3 (earlier before h.1.0 h.0 h.1.1)

    secret_at : (fuel place : ℕ) (step : Step) → place < fuel → Has queue place step → Secret program step.var
    secret_at zero place step lt h = absurd (omega arith)
    secret_at (suc fuel) place step lt h = secret_by place step.var step.cause (λ before other less there. secret_at fuel before other (omega arith) there) (state.sound place step h)

    module _ (ended : length queue ≤ next) where
      all_marked : (x : ℕ) → Secret program x → IsTrue (mark_of names marks x)
      all_marked x (declared _ origin h) = state.declared x origin h
      all_marked x (loaded s memory _ h w) = state.loaded s memory x h w
      all_marked x (moved s y _ r w t) =
          let found = state.back y (all_marked y t) in
          let place = in_has queue found.0 found.1 in
          let lt = place.1 in
          state.done place.0 found.0 (omega arith) place.2 s x (subst (λ v. Reads program s v) (sym found.2) r) w

      all_secret : (x : ℕ) → IsTrue (mark_of names marks x) → Secret program x
      all_secret x h =
          let found = state.back x h in
          let place = in_has queue found.0 found.1 in
          subst (Secret program) found.2 (secret_at (suc place.0) place.0 found.0 (omega arith) place.2)

      pub search_ends : Searched program queue
      search_ends = record {
        exact = λ x. (
          (λ h.
              let found = found_step queue x h in
              subst (Secret program) found.2 (all_secret found.0.var (state.queued found.0 found.1))),
          (λ h.
              let found = state.back x (all_marked x h) in
              subst (λ v. IsTrue (is_found queue v)) found.2 (step_found queue found.0 found.1)),
        );
        sound = state.sound;
      }
