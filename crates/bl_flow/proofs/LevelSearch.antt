-- The search for levels.
use Rattle.std.proofs.Common.{◌≡◌, ℕ, suc, ◌+◌, ◌^◌, ◌<◌, ◌≤◌, List, [], ◌∷◌, ◌++◌, length, set, Bool, Option, Some, None, unwrap_or, true, false, if◌then◌else◌, nat_lt, refl, sym, ap, subst, ◌∙◌, arith, ◌⊎◌, inl, inr, slice_index, replicate, length-append, length-set}
use Rattle.std.specs.List.{Contains}
use Rattle.std.specs.Option.{is_some}
use Rattle.std.proofs.lemmas.List.Sums.{sum_by-set}
use Rattle.std.proofs.lemmas.Bool.{cases_lt, cases_eq, false≢true, lt-ltb, le-ltb, ltb-true, ltb-false}
use Rattle.std.proofs.lemmas.List.{get_or-set_same, get_or-set_other, set-get_or, get_or_append_left, get_or_push, get_or-replicate, get_or_past, get_or_default, length-replicate}
use Rattle.std.proofs.lemmas.List.Elements.{Contains-append_left, Contains-append_right, Contains-append_cases}
use Rattle.bl_flow.specs.declared.split.Link.{Link}
use Rattle.bl_flow.specs.Codes.{is_below, least}
use Rattle.bl_flow.specs.Split.{link_at}
use Rattle.bl_flow.specs.Levels.{IsReached, here, onward, level_at, AreLevels, AreLevelsToEnd, IsSteep, AreLowered, AreBelow, Waits, IsPast, Levelling, Following, Visited, Spread, distance}
use Rattle.bl_flow.specs.Searches.{AreRows, part_row}

pub some_same : {a b : ℕ} → Some a ≡ Some b → a ≡ b
some_same e = ap (λ o. unwrap_or o 0) e

pub none_some : {k : ℕ} → None ≡ Some k → ⊥
none_some q = cc

-- a part that is given a level, of none or a greater one
module _ (levels : List (Option ℕ)) (to new : ℕ) (within : to < length levels) (less : (d : ℕ) → level_at levels to ≡ Some d → new < d) where
  abbrev after : List (Option ℕ)
  after = set levels to (Some new)

  pub here_now : level_at after to ≡ Some new
  here_now = get_or-set_same levels to (Some new) None within

  other_now : (p : ℕ) → (p ≡ to → ⊥) → level_at after p ≡ level_at levels p
  other_now p other = get_or-set_other levels to p (Some new) None other

  -- a level was there or is the new one
  pub was : (P : ℕ → ℕ → Type 0) → ((p d : ℕ) → (p ≡ to → ⊥) → level_at levels p ≡ Some d → P p d) → P to new → (p d : ℕ) → level_at after p ≡ Some d → P p d
  was P old this p d is =
      elim (cases_eq p to) as (λ _. P p d) [
        | inl e ↦ let same = some_same (sym here_now ∙ ap (level_at after) (sym e) ∙ is) in subst (λ q. P q d) (sym e) (subst (P to) same this)
        | inr other ↦ old p d other (sym (other_now p other) ∙ is)
      ]

  pub lowered_one : AreLowered levels after
  lowered_one p d is =
      elim (cases_eq p to) as (λ _. (e : ℕ) × (level_at after p ≡ Some e) × (e ≤ d)) [
        | inl e ↦ let low = less d (ap (level_at levels) (sym e) ∙ is) in (new, ap (level_at after) e ∙ here_now, omega arith)
        | inr other ↦ (d, other_now p other ∙ is, omega arith)
      ]

  pub kept_one : (p d : ℕ) → level_at levels p ≡ Some d → d ≤ new → level_at after p ≡ Some d
  kept_one p d is most =
      other_now p (λ e. let low = less d (ap (level_at levels) (sym e) ∙ is) in absurd (omega arith)) ∙ is

  pub distance_one : (most : ℕ) → new < most → distance most after + 1 ≤ distance most levels
  distance_one most below =
      let count = sum_by-set (λ o. unwrap_or o most) levels to (Some new) None within in
      let old : new < unwrap_or (level_at levels to) most = from_option (level_at levels to) refl in omega arith
    where
      from_option : (o : Option ℕ) → level_at levels to ≡ o → new < unwrap_or o most
      from_option None _ = below
      from_option (Some d) e = less d e

-- what was lowered was lowered before
pub lowered_both : (a b c : List (Option ℕ)) → AreLowered a b → AreLowered b c → AreLowered a c
lowered_both a b c first second = λ p d is.
    let x = first p d is in let y = second p x.0 x.1 in let m = x.2 in let n = y.2 in (y.0, y.1, omega arith)

pub past_lowered : (stops : Bool) (levels now : List (Option ℕ)) (end d : ℕ) → AreLowered levels now → IsPast stops levels end d → IsPast stops now end d
past_lowered stops levels now end d lower past =
    let there = past.1 in let y = lower end there.0 there.1 in let m = there.2 in let n = y.2 in (past.0, (y.0, y.1, omega arith))

-- what is left of a part of that level
abbrev Open : List Link → List ℕ → ℕ → ℕ → Bool → List (Option ℕ) → List ℕ → ℕ → ℕ → ℕ → ℕ → Type 0
Open links capacities root end stops levels queue next visited p d =
    IsSteep links capacities end levels p ⊎ (Waits queue next p ⊎ (IsPast stops levels end d ⊎ ((p ≡ visited) ⊎ (p ≡ root))))

module _ (links : List Link) (capacities : List ℕ) (root end : ℕ) (stops : Bool) (levels : List (Option ℕ)) (queue : List ℕ) (next visited low : ℕ)
    (state : Levelling links capacities root end stops levels queue next visited) (order : next ≤ length queue)
    (k to : ℕ) (within : to < length levels) (less : (d : ℕ) → level_at levels to ≡ Some d → suc low < d) (k_in : k < length links) (capacity : 0 < slice_index capacities k)
    (leads : (link_at links k).to ≡ to) (from_low : level_at levels (link_at links k).from ≡ Some low) (goes : (link_at links k).from ≡ end → ⊥) where
  abbrev levels_after : List (Option ℕ)
  levels_after = set levels to (Some (suc low))

  abbrev queue_after : List ℕ
  queue_after = queue ++ to ∷ []

  abbrev StillOpen : ℕ → ℕ → Type 0
  StillOpen p d = Open links capacities root end stops levels_after queue_after next visited p d

  steep_on : (p d : ℕ) → (p ≡ to → ⊥) → level_at levels p ≡ Some d → IsSteep links capacities end levels p → IsSteep links capacities end levels_after p
  steep_on p d other is steep = λ apart d' k' is' lt some from.
      let was_d : level_at levels p ≡ Some d' = sym (get_or-set_other levels to p (Some (suc low)) None other) ∙ is' in
      let old = steep apart d' k' was_d lt some from in
      let now = lowered_one levels to (suc low) within less (link_at links k').to old.0 old.1 in
      let m = old.2 in let n = now.2 in
      (now.0, now.1, omega arith)

  still_open : (p d : ℕ) → (p ≡ to → ⊥) → level_at levels p ≡ Some d → StillOpen p d
  still_open p d other is =
      let longer = length-append queue (to ∷ []) in
      elim (state.waiting p d is) as (λ _. StillOpen p d) [
        | inl steep ↦ inl (steep_on p d other is steep)
        | inr (inl there) ↦ let inside = there.2 in
            inr (inl (there.0, there.1, omega arith, get_or_append_left queue (to ∷ []) 0 there.0 there.2 ∙ there.3))
        | inr (inr (inl past)) ↦ inr (inr (inl (past_lowered stops levels levels_after end d (lowered_one levels to (suc low) within less) past)))
        | inr (inr (inr more)) ↦ inr (inr (inr more))
      ]

  pub levels_one : Levelling links capacities root end stops levels_after queue_after next visited
  levels_one = record {
    sound = was levels to (suc low) within less (λ p d. IsReached links capacities root end d p) (λ p d _ is. state.sound p d is)
        (onward low to k k_in capacity (state.sound (link_at links k).from low from_low) goes leads);
    root_level = kept_one levels to (suc low) within less root 0 state.root_level (omega arith);
    waiting = was levels to (suc low) within less StillOpen still_open
        (inr (inl (length queue, order, let longer = length-append queue (to ∷ []) in omega arith, get_or_push queue to 0 (length queue) refl)));
  }

module _ (links : List Link) (capacities : List ℕ) (root end : ℕ) (stops : Bool) (levels : List (Option ℕ)) where
  -- a part is taken from the queue
  pub takes_next : (queue : List ℕ) (next : ℕ) → next < length queue → Levelling links capacities root end stops levels queue next root
      → Levelling links capacities root end stops levels queue (next + 1) (slice_index queue next)
  takes_next queue next lt state = record {
    sound = state.sound;
    root_level = state.root_level;
    waiting = λ p d is. moved p d (state.waiting p d is);
  }
    where
      moved : (p d : ℕ) → Open links capacities root end stops levels queue next root p d → Open links capacities root end stops levels queue (next + 1) (slice_index queue next) p d
      moved p d (inl steep) = inl steep
      moved p d (inr (inl there)) =
          elim (cases_eq there.0 next) as (λ _. Open links capacities root end stops levels queue (next + 1) (slice_index queue next) p d) [
            | inl e ↦ inr (inr (inr (inl (sym there.3 ∙ ap (slice_index queue) e))))
            | inr other ↦ let from = there.1 in inr (inl (there.0, omega arith, there.2, there.3))
          ]
      moved p d (inr (inr (inl past))) = inr (inr (inl past))
      moved p d (inr (inr (inr (inl e)))) = inr (inr (inr (inr e)))
      moved p d (inr (inr (inr (inr e)))) = inr (inr (inr (inr e)))

  -- a visit ends where the part is steep, past the end, or has no level
  pub part_closed : (queue : List ℕ) (next part : ℕ)
      → ((d : ℕ) → level_at levels part ≡ Some d → IsSteep links capacities end levels part ⊎ IsPast stops levels end d)
      → Levelling links capacities root end stops levels queue next part → Levelling links capacities root end stops levels queue next root
  part_closed queue next part closed state = record {
    sound = state.sound;
    root_level = state.root_level;
    waiting = λ p d is. moved p d is (state.waiting p d is);
  }
    where
      here_closed : (p d : ℕ) → p ≡ part → IsSteep links capacities end levels part ⊎ IsPast stops levels end d → Open links capacities root end stops levels queue next root p d
      here_closed p d e (inl steep) = inl (subst (IsSteep links capacities end levels) (sym e) steep)
      here_closed p d e (inr past) = inr (inr (inl past))

      moved : (p d : ℕ) → level_at levels p ≡ Some d → Open links capacities root end stops levels queue next part p d → Open links capacities root end stops levels queue next root p d
      moved p d is (inl steep) = inl steep
      moved p d is (inr (inl there)) = inr (inl there)
      moved p d is (inr (inr (inl past))) = inr (inr (inl past))
      moved p d is (inr (inr (inr (inl e)))) = here_closed p d e (closed d (ap (level_at levels) (sym e) ∙ is))
      moved p d is (inr (inr (inr (inr e)))) = inr (inr (inr (inr e)))

  -- a part of that level is steep where each of its links leads at most one level on
  pub steep_of : (part low : ℕ) → level_at levels part ≡ Some low
      → ((part ≡ end → ⊥) → (k : ℕ) → k < length links → 0 < slice_index capacities k → (link_at links k).from ≡ part → (e : ℕ) × (level_at levels (link_at links k).to ≡ Some e) × (e ≤ suc low))
      → IsSteep links capacities end levels part
  steep_of part low is done = λ apart d k is_d lt some from.
      let found = done apart k lt some from in
      let same = some_same (sym is ∙ is_d) in
      let m = found.2 in (found.0, found.1, omega arith)

module _ (links : List Link) (capacities : List ℕ) (root end : ℕ) (levels : List (Option ℕ)) where
  -- levels that walks have and that links raise by at most one are the least
  pub least_levels : ((part d : ℕ) → level_at levels part ≡ Some d → IsReached links capacities root end d part) → level_at levels root ≡ Some 0
      → ((part d : ℕ) → level_at levels part ≡ Some d → IsSteep links capacities end levels part) → AreLevels links capacities root end levels
  least_levels sound root_level steep = record { sound = sound; least = least }
    where
      least : (part steps : ℕ) → IsReached links capacities root end steps part → (d : ℕ) × (level_at levels part ≡ Some d) × (d ≤ steps)
      least _ _ here = (0, root_level, omega arith)
      least _ _ (onward steps part k lt capacity there goes e) =
          let before = least (link_at links k).from steps there in
          let on = steep (link_at links k).from before.0 before.1 goes before.0 k before.1 lt capacity refl in
          let a = before.2 in let b = on.2 in
          (on.0, ap (level_at levels) (sym e) ∙ on.1, omega arith)

  pub whole_levels : AreLevelsToEnd links capacities root end levels → level_at levels end ≡ None → AreLevels links capacities root end levels
  whole_levels are none = record { sound = are.sound; least = λ part steps reached. are.least part steps reached (λ d is. absurd (none_some (sym none ∙ is))) }

-- what a search whose queue is empty has found, once the root is steep
module _ (links : List Link) (capacities : List ℕ) (root end : ℕ) (stops : Bool) (levels : List (Option ℕ)) (queue : List ℕ) (next : ℕ) (past : length queue ≤ next)
    (state : Levelling links capacities root end stops levels queue next root) (root_steep : IsSteep links capacities end levels root) where
  closed : (p d : ℕ) → level_at levels p ≡ Some d → IsSteep links capacities end levels p ⊎ IsPast stops levels end d
  closed p d is =
      elim (state.waiting p d is) as (λ _. IsSteep links capacities end levels p ⊎ IsPast stops levels end d) [
        | inl steep ↦ inl steep
        | inr (inl there) ↦ let a = there.1 in let b = there.2 in absurd (omega arith)
        | inr (inr (inl far)) ↦ inr far
        | inr (inr (inr (inl e))) ↦ inl (subst (IsSteep links capacities end levels) (sym e) root_steep)
        | inr (inr (inr (inr e))) ↦ inl (subst (IsSteep links capacities end levels) (sym e) root_steep)
      ]

  pub all_levels : stops ≡ false → AreLevels links capacities root end levels
  all_levels goes = least_levels links capacities root end levels state.sound state.root_level (λ p d is.
      elim (closed p d is) as (λ _. IsSteep links capacities end levels p) [
        | inl steep ↦ steep
        | inr far ↦ absurd (false≢true (sym goes ∙ far.0))
      ])

  pub levels_to_end : AreLevelsToEnd links capacities root end levels
  levels_to_end = record { sound = state.sound; least = least }
    where
      least : (part steps : ℕ) → IsReached links capacities root end steps part → ((d : ℕ) → level_at levels end ≡ Some d → steps ≤ d)
          → (d : ℕ) × (level_at levels part ≡ Some d) × (d ≤ steps)
      least _ _ here near = (0, state.root_level, omega arith)
      least _ _ (onward steps part k lt capacity there goes e) near =
          let before = least (link_at links k).from steps there (λ d level. let all = near d level in omega arith) in
          let a = before.2 in
          elim (closed (link_at links k).from before.0 before.1) as (λ _. (d : ℕ) × (level_at levels part ≡ Some d) × (d ≤ suc steps)) [
            | inl steep ↦ let on = steep goes before.0 k before.1 lt capacity refl in let b = on.2 in (on.0, ap (level_at levels) (sym e) ∙ on.1, omega arith)
            | inr far ↦ let f = far.1 in let most = near f.0 f.1 in let b = f.2 in absurd (omega arith)
          ]

-- before the search the root alone has a level, and is visited
pub first_level : (links : List Link) (capacities : List ℕ) (root end count : ℕ) (stops : Bool) → root < count
    → Levelling links capacities root end stops (set (replicate count None) root (Some 0)) [] 0 root
first_level links capacities root end count stops lt = record {
  sound = only (λ q e. IsReached links capacities root end e q) here;
  root_level = here_;
  waiting = only (λ p d. IsSteep links capacities end now p ⊎ (Waits [] 0 p ⊎ (IsPast stops now end d ⊎ ((p ≡ root) ⊎ (p ≡ root))))) (inr (inr (inr (inl refl))));
}
  where
    now : List (Option ℕ)
    now = set (replicate count None) root (Some 0)

    size : length (replicate {A = Option ℕ} count None) ≡ count
    size = length-replicate count None

    here_ : level_at now root ≡ Some 0
    here_ = get_or-set_same (replicate count None) root (Some 0) None (let s = size in omega arith)

    no_level : (p : ℕ) → level_at (replicate count None) p ≡ None
    no_level p =
        elim (cases_lt p count) as (λ _. level_at (replicate count None) p ≡ None) [
          | inl inside ↦ get_or-replicate count p None None inside
          | inr past ↦ get_or_past (replicate count None) p None (let s = size in omega arith)
        ]

    only : (P : ℕ → ℕ → Type 0) → P root 0 → (p d : ℕ) → level_at now p ≡ Some d → P p d
    only P this p d is =
        elim (cases_eq p root) as (λ _. P p d) [
          | inl e ↦ let same = some_same (sym here_ ∙ ap (level_at now) (sym e) ∙ is) in subst (λ q. P q d) (sym e) (subst (P root) same this)
          | inr other ↦ absurd (none_some (sym (no_level p) ∙ sym (get_or-set_other (replicate count None) root p (Some 0) None other) ∙ is))
        ]

module _ (links : List Link) (row capacities : List ℕ) (levels : List (Option ℕ)) (queue : List ℕ) (low index : ℕ) (now : List (Option ℕ)) (queue_now : List ℕ)
    (so_far : Following links row capacities levels queue low index now queue_now) (lt : index < length row) where
  abbrev k : ℕ
  k = slice_index row index

  abbrev Shown : List (Option ℕ) → ℕ → Type 0
  Shown given place = (e : ℕ) × (level_at given (link_at links (slice_index row place)).to ≡ Some e) × (e ≤ suc low)

  pub follow_skips : (0 < slice_index capacities k → (e : ℕ) × (level_at now (link_at links k).to ≡ Some e) × (e ≤ suc low)) → Following links row capacities levels queue low (index + 1) now queue_now
  follow_skips this = record {
    places = so_far.places;
    lower = so_far.lower;
    kept = so_far.kept;
    inside = so_far.inside;
    state = so_far.state;
    longer = so_far.longer;
    done = λ place below some.
        elim (cases_lt place index) as (λ _. Shown now place) [
          | inl before ↦ so_far.done place before some
          | inr behind ↦ let e : place ≡ index = omega arith in
              subst (λ q. 0 < slice_index capacities (slice_index row q) → Shown now q) (sym e) this some
        ];
    counts = so_far.counts;
  }

  pub follow_marks : k < length links → 0 < slice_index capacities k → (link_at links k).to < length now
      → ((d : ℕ) → level_at now (link_at links k).to ≡ Some d → suc low < d)
      → Following links row capacities levels queue low (index + 1) (set now (link_at links k).to (Some (suc low))) (queue_now ++ (link_at links k).to ∷ [])
  follow_marks k_in capacity within less =
      let size = length-append queue_now ((link_at links k).to ∷ []) in
      let old_longer = so_far.longer in
      record {
        places = length-set now (link_at links k).to (Some (suc low)) ∙ so_far.places;
        lower = lowered_both levels now after_ so_far.lower (lowered_one now (link_at links k).to (suc low) within less);
        kept = λ p d is most. kept_one now (link_at links k).to (suc low) within less p d (so_far.kept p d is most) most;
        inside = λ below place inside_.
            elim (cases_lt place (length queue_now)) as (λ _. slice_index (queue_now ++ (link_at links k).to ∷ []) place < length levels) [
              | inl before ↦ let old = so_far.inside below place before in
                  let same = get_or_append_left queue_now ((link_at links k).to ∷ []) 0 place before in omega arith
              | inr behind ↦ let same = get_or_push queue_now (link_at links k).to 0 place (omega arith) in
                  let count = so_far.places in omega arith
            ];
        state = λ root end next part stops from is order state.
            levels_one links capacities root end stops now queue_now next part low (so_far.state root end next part stops from is order state) (omega arith) k (link_at links k).to within less k_in capacity refl
            (ap (level_at now) (from index lt).0 ∙ so_far.kept part low is (omega arith)) (λ q. (from index lt).1 (sym (from index lt).0 ∙ q));
        longer = omega arith;
        done = λ place below some.
            elim (cases_lt place index) as (λ _. Shown after_ place) [
              | inl before ↦ let old = so_far.done place before some in
                  let on = lowered_one now (link_at links k).to (suc low) within less _ old.0 old.1 in
                  let m = old.2 in let n = on.2 in (on.0, on.1, omega arith)
              | inr behind ↦ let e : place ≡ index = omega arith in
                  (suc low, ap (λ q. level_at after_ (link_at links (slice_index row q)).to) e ∙ here_now now (link_at links k).to (suc low) within less, omega arith)
            ];
        counts = λ most below. let one = distance_one now (link_at links k).to (suc low) within less most below in let old = so_far.counts most below in omega arith;
      }
    where
      after_ : List (Option ℕ)
      after_ = set now (link_at links k).to (Some (suc low))

-- a part is offered a level by a link, and takes it where that is lower
module _ (links : List Link) (row capacities : List ℕ) (levels : List (Option ℕ)) (queue : List ℕ) (low index : ℕ) (now : List (Option ℕ)) (queue_now : List ℕ)
    (so_far : Following links row capacities levels queue low index now queue_now) (lt : index < length row)
    (k_in : slice_index row index < length links) (within : (link_at links (slice_index row index)).to < length now) where
  abbrev to : ℕ
  to = (link_at links (slice_index row index)).to

  abbrev Settled : Option ℕ → Bool → Type 0
  Settled level is_in = Following links row capacities levels queue low (index + 1) (set now to level) (if is_in then queue_now ++ to ∷ [] else queue_now)

  abbrev Offered : Bool → ℕ → Option ℕ → Type 0
  Offered has new known = Settled (least (if has then Some new else None) known) (is_below (if has then Some new else None) known)

  skipped : (0 < slice_index capacities (slice_index row index) → (e : ℕ) × (level_at now to ≡ Some e) × (e ≤ suc low))
      → Following links row capacities levels queue low (index + 1) (set now to (level_at now to)) queue_now
  skipped this =
      subst (λ l. Following links row capacities levels queue low (index + 1) l queue_now) (sym (set-get_or now to None))
      (follow_skips links row capacities levels queue low index now queue_now so_far lt this)

  taken : (has : Bool) → (has ≡ true → 0 < slice_index capacities (slice_index row index)) → (has ≡ false → slice_index capacities (slice_index row index) ≡ 0)
      → (known : Option ℕ) → level_at now to ≡ known → Offered has (suc low) known
  taken false _ lacks known is =
      subst (λ l. Following links row capacities levels queue low (index + 1) (set now to l) queue_now) is
      (skipped (λ some. let none = lacks refl in absurd (omega arith)))
  taken true has _ None is =
      follow_marks links row capacities levels queue low index now queue_now so_far lt k_in (has refl) within (λ d level. absurd (none_some (sym is ∙ level)))
  taken true has _ (Some d) is =
      elim (cases_lt (suc low) d) as (λ _. Offered true (suc low) (Some d)) [
        | inl less ↦ subst (λ b. Settled (if b then Some (suc low) else Some d) b) (sym (lt-ltb (suc low) d less))
            (follow_marks links row capacities levels queue low index now queue_now so_far lt k_in (has refl) within
            (λ e level. let same = some_same (sym is ∙ level) in omega arith))
        | inr most ↦ subst (λ b. Settled (if b then Some (suc low) else Some d) b) (sym (le-ltb (suc low) d most))
            (subst (λ l. Following links row capacities levels queue low (index + 1) (set now to l) queue_now) is (skipped (λ _. (d, is, omega arith))))
      ]

  pub follow_offers : (known : Option ℕ) → level_at now to ≡ known → Offered (nat_lt 0 (slice_index capacities (slice_index row index))) (low + 1) known
  follow_offers known is =
      let next_is : suc low ≡ low + 1 = omega arith in
      let capacity : ℕ = slice_index capacities (slice_index row index) in
      subst (λ new. Offered (nat_lt 0 capacity) new known) next_is
      (taken (nat_lt 0 capacity) (ltb-true 0 capacity) (λ lacks. let most = ltb-false 0 capacity lacks in omega arith) known is)

-- a part's row shows all links from it
pub row_followed : (links : List Link) (capacities : List ℕ) (rows : List (List ℕ)) (levels : List (Option ℕ)) (part low : ℕ) → AreRows links rows
    → ((place : ℕ) → place < length (part_row rows part) → 0 < slice_index capacities (slice_index (part_row rows part) place)
    → (e : ℕ) × (level_at levels (link_at links (slice_index (part_row rows part) place)).to ≡ Some e) × (e ≤ suc low))
    → (k : ℕ) → k < length links → 0 < slice_index capacities k → (link_at links k).from ≡ part → (e : ℕ) × (level_at levels (link_at links k).to ≡ Some e) × (e ≤ suc low)
row_followed links capacities rows levels part low hold shown k lt capacity from =
    let there : Contains (part_row rows part) k = subst (λ p. Contains (part_row rows p) k) from (hold.full k lt) in
    let e : slice_index (part_row rows part) there.0 ≡ k = get_or_default (part_row rows part) there.0 0 k there.1 ∙ there.2 in
    subst (λ j. (d : ℕ) × (level_at levels (link_at links j).to ≡ Some d) × (d ≤ suc low)) e (shown there.0 there.1 (subst (λ j. 0 < slice_index capacities j) (sym e) capacity))

-- a part whose row is followed is visited
pub part_visited : (links : List Link) (capacities : List ℕ) (rows : List (List ℕ)) (part end : ℕ) (stops : Bool) (levels : List (Option ℕ)) (queue : List ℕ) (low : ℕ) (row : List ℕ) (now : List (Option ℕ)) (queue_now : List ℕ)
    → AreRows links rows → level_at levels part ≡ Some low → suc low < 2 ^ 32
    → (part ≡ end → length row ≡ 0) → ((part ≡ end → ⊥) → row ≡ part_row rows part)
    → Following links row capacities levels queue low (length row) now queue_now → Visited links capacities part end stops levels queue now queue_now
part_visited links capacities rows part end stops levels queue low row now queue_now hold level small none row_is followed = record {
  places = followed.places;
  lower = followed.lower;
  inside = followed.inside;
  longer = followed.longer;
  state = λ root next order state.
      part_closed links capacities root end stops now queue_now next part
      (λ d is. inl (steep_of links capacities root end stops now part low (followed.kept part low level (omega arith)) (λ goes. row_followed links capacities rows now part low hold (shown goes))))
      (followed.state root end next part stops from level order state);
  counts = followed.counts (2 ^ 32) small;
}
  where
    from : (place : ℕ) → place < length row → ((link_at links (slice_index row place)).from ≡ part) × (part ≡ end → ⊥)
    from place below =
        let apart : part ≡ end → ⊥ = λ e. let empty = none e in absurd (omega arith) in
        (subst (λ r. place < length r → (link_at links (slice_index r place)).from ≡ part) (sym (row_is apart)) (λ lower. (hold.sound part place lower).1) below, apart)

    shown : (part ≡ end → ⊥) → (place : ℕ) → place < length (part_row rows part) → 0 < slice_index capacities (slice_index (part_row rows part) place)
        → (e : ℕ) × (level_at now (link_at links (slice_index (part_row rows part) place)).to ≡ Some e) × (e ≤ suc low)
    shown goes = subst (λ r. (place : ℕ) → place < length r → 0 < slice_index capacities (slice_index r place) → (e : ℕ) × (level_at now (link_at links (slice_index r place)).to ≡ Some e) × (e ≤ suc low)) (row_is goes) followed.done

pub spread_begins : (links : List Link) (capacities : List ℕ) (end : ℕ) (stops : Bool) (levels : List (Option ℕ)) (queue : List ℕ)
    → AreBelow (length levels) queue → Spread links capacities end stops levels queue levels queue 0
spread_begins links capacities end stops levels queue below = record {
  places = refl;
  lower = λ p d is. (d, is, omega arith);
  inside = below;
  in_order = omega arith;
  state = λ root state. state;
}

pub spread_on : (links : List Link) (capacities : List ℕ) (end : ℕ) (stops : Bool) (levels : List (Option ℕ)) (queue : List ℕ) (mid : List (Option ℕ)) (queue_mid : List ℕ) (next : ℕ) (now : List (Option ℕ)) (queue_now : List ℕ)
    → Spread links capacities end stops levels queue mid queue_mid next → next < length queue_mid
    → Visited links capacities (slice_index queue_mid next) end stops mid queue_mid now queue_now
    → Spread links capacities end stops levels queue now queue_now (next + 1)
spread_on links capacities end stops levels queue mid queue_mid next now queue_now so_far lt visited = record {
  places = visited.places ∙ so_far.places;
  lower = lowered_both levels mid now so_far.lower visited.lower;
  inside = subst (λ m. AreBelow m queue_now) so_far.places (visited.inside (subst (λ m. AreBelow m queue_mid) (sym so_far.places) so_far.inside));
  in_order = let longer = visited.longer in omega arith;
  state = λ root state. visited.state root (next + 1) (omega arith) (takes_next links capacities root end stops mid queue_mid next lt (so_far.state root state));
}

-- an empty queue waits for nothing
pub spread_ends : (links : List Link) (capacities : List ℕ) (end : ℕ) (stops : Bool) (levels : List (Option ℕ)) (queue : List ℕ) (now : List (Option ℕ)) (queue_now : List ℕ) (next : ℕ)
    → Spread links capacities end stops levels queue now queue_now next → length queue_now ≤ next → Spread links capacities end stops levels queue now [] 0
spread_ends links capacities end stops levels queue now queue_now next so_far past = record {
  places = so_far.places;
  lower = so_far.lower;
  inside = λ place below. absurd (omega arith);
  in_order = omega arith;
  state = λ root state. ended root (so_far.state root state);
}
  where
    ended : (root : ℕ) → Levelling links capacities root end stops now queue_now next root → Levelling links capacities root end stops now [] 0 root
    ended root state = record {
      sound = state.sound;
      root_level = state.root_level;
      waiting = λ p d is.
          elim (state.waiting p d is) as (λ _. IsSteep links capacities end now p ⊎ (Waits [] 0 p ⊎ (IsPast stops now end d ⊎ ((p ≡ root) ⊎ (p ≡ root))))) [
            | inl steep ↦ inl steep
            | inr (inl there) ↦ let a = there.1 in let b = there.2 in absurd (omega arith)
            | inr (inr more) ↦ inr (inr more)
          ];
    }

-- the links from the root, or none where it is the end
pub root_sound : (links : List Link) (rows : List (List ℕ)) (root end : ℕ) (rest : List ℕ) → AreRows links rows → (root ≡ end → length rest ≡ 0) → ((root ≡ end → ⊥) → rest ≡ part_row rows root)
    → (k : ℕ) → Contains rest k → (k < length links) × ((link_at links k).from ≡ root) × (root ≡ end → ⊥)
root_sound links rows root end rest hold none row_is k there =
    let place_in = there.1 in
    let apart : root ≡ end → ⊥ = λ e. let empty = none e in absurd (omega arith) in
    let found : Contains (part_row rows root) k = subst (λ r. Contains r k) (row_is apart) there in
    let e : slice_index (part_row rows root) found.0 ≡ k = get_or_default (part_row rows root) found.0 0 k found.1 ∙ found.2 in
    let both = subst (λ j. (j < length links) × ((link_at links j).from ≡ root)) e (hold.sound root found.0 found.1) in
    (both.0, both.1, apart)

-- a group of the links from the root is followed, and what it leads to
module _ (links : List Link) (capacities : List ℕ) (root end : ℕ) (stops : Bool) (levels : List (Option ℕ)) (queue rest group behind : List ℕ)
    (mid : List (Option ℕ)) (queue_mid : List ℕ) (now : List (Option ℕ)) (queue_now : List ℕ) (whole : rest ≡ group ++ behind)
    (state : Levelling links capacities root end stops levels queue 0 root)
    (sound : (k : ℕ) → Contains rest k → (k < length links) × ((link_at links k).from ≡ root) × (root ≡ end → ⊥))
    (followed : Following links group capacities levels queue 0 (length group) mid queue_mid)
    (spread : Spread links capacities end stops mid queue_mid now queue_now 0) where
  in_group : (place : ℕ) → place < length group → Contains rest (slice_index group place)
  in_group place lt = subst (λ r. Contains r (slice_index group place)) (sym whole)
      (Contains-append_left group behind (slice_index group place) (place, lt, get_or_default group place (slice_index group place) 0 lt))

  pub group_state : Levelling links capacities root end stops now queue_now 0 root
  group_state = spread.state root (followed.state root end 0 root stops
      (λ place lt. let known = sound (slice_index group place) (in_group place lt) in (known.1, known.2)) state.root_level (omega arith) state)

  pub behind_sound : (k : ℕ) → Contains behind k → (k < length links) × ((link_at links k).from ≡ root) × (root ≡ end → ⊥)
  behind_sound k there = sound k (subst (λ r. Contains r k) (sym whole) (Contains-append_right group behind k there))

  abbrev Near : List (Option ℕ) → ℕ → Type 0
  Near given k = (e : ℕ) × (level_at given (link_at links k).to ≡ Some e) × (e ≤ 1)

  nearer : (before after_ : List (Option ℕ)) → AreLowered before after_ → (k : ℕ) → Near before k → Near after_ k
  nearer before after_ lower k near = let on = lower (link_at links k).to near.0 near.1 in let m = near.2 in let n = on.2 in (on.0, on.1, omega arith)

  pub behind_full : (k : ℕ) → 0 < slice_index capacities k → Contains rest k ⊎ Near levels k → Contains behind k ⊎ Near now k
  behind_full k some (inr near) = inr (nearer mid now spread.lower k (nearer levels mid followed.lower k near))
  behind_full k some (inl there) = parted (Contains-append_cases group behind k (subst (λ r. Contains r k) whole there))
    where
      parted : Contains group k ⊎ Contains behind k → Contains behind k ⊎ Near now k
      parted (inr later) = inl later
      parted (inl in_) =
          let e : slice_index group in_.0 ≡ k = get_or_default group in_.0 0 k in_.1 ∙ in_.2 in
          let done = followed.done in_.0 in_.1 (subst (λ j. 0 < slice_index capacities j) (sym e) some) in
          inr (nearer mid now spread.lower k (subst (λ j. Near mid j) e done))

-- a part with a level is one of the parts
pub level_in : (levels : List (Option ℕ)) (p d : ℕ) → level_at levels p ≡ Some d → p < length levels
level_in levels p d is =
    elim (cases_lt p (length levels)) as (λ _. p < length levels) [
      | inl inside ↦ inside
      | inr past ↦ absurd (none_some (sym (get_or_past levels p None (omega arith)) ∙ is))
    ]

pub none_of : (o : Option ℕ) → is_some o ≡ false → o ≡ None
none_of None e = refl
none_of (Some d) e = absurd (false≢true (sym e))

pub some_of : (o : Option ℕ) → is_some o ≡ true → (d : ℕ) × (o ≡ Some d)
some_of None e = absurd (false≢true e)
some_of (Some d) e = (d, refl)
