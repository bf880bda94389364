-- One step of the search for a shortest trail back whose passed links stay passed.
use Rattle.std.proofs.Common.{◌≡◌, ℕ, suc, ◌+◌, ◌-◌, ◌*◌, ◌<◌, ◌≤◌, List, [], ◌∷◌, ◌++◌, length, set, take, Option, Some, None, refl, sym, ap, subst, ◌∙◌, arith, inl, inr, slice_index}
use Rattle.std.specs.Option.{unwrap_or}
use Rattle.std.proofs.lemmas.Bool.{cases_lt, cases_eq}
use Rattle.std.proofs.lemmas.List.{get_or-set_same, get_or-set_other, get_or_append_left, get_or_push, length-append, length-set, length-take-le, take_more, take_more_set}
use Rattle.std.specs.List.{slice_get}
use Rattle.std.proofs.lemmas.Option.{slice_get_within, get_or_from_slice_get, slice_get-get_or}
use Rattle.bl_flow.specs.declared.split.Link.{Link}
use Rattle.bl_base.specs.Sums.{sum_below}
use Rattle.bl_flow.specs.Split.{link_at}
use Rattle.bl_flow.specs.Flows.{LeadsBack}
use Rattle.bl_flow.specs.Searches.{part_row}
use Rattle.bl_flow.specs.Levels.{height, IsStep, AreRowsIn, IsDead, ArePassed}
use Rattle.bl_base.proofs.Sums.{sum_change}

-- how many links are not passed
abbrev pub left_below : List (List ℕ) → List ℕ → ℕ → ℕ
left_below rows passed parts = sum_below parts (λ p. length (part_row rows p) - slice_index passed p)

pub one_up : (levels : List (Option ℕ)) (from to : ℕ) → IsStep levels from to → height levels to ≡ suc (height levels from)
one_up levels from to step = ap (λ o. unwrap_or o 0) step.after ∙ ap suc (sym (ap (λ o. unwrap_or o 0) step.before))

-- one link more
pub leads_more : (links : List Link) (trail : List ℕ) (at part k : ℕ) → LeadsBack links trail at part → (link_at links k).to ≡ at → LeadsBack links (trail ++ k ∷ []) (link_at links k).from part
leads_more links [] at part k back to = (to ∙ sym back, refl)
leads_more links (j ∷ trail) at part k back to = (back.0, leads_more links trail at (link_at links j).from k back.1 to)

-- a longer trail without its last link
leads_less : (links : List Link) (trail : List ℕ) (at part k : ℕ) → LeadsBack links (trail ++ k ∷ []) at part → LeadsBack links trail (link_at links k).to part × ((link_at links k).from ≡ at)
leads_less links [] at part k back = (sym back.0, back.1)
leads_less links (j ∷ trail) at part k back = let rest = leads_less links trail at (link_at links j).from k back.1 in ((back.0, rest.0), rest.1)

module _ (links : List Link) (capacities : List ℕ) (levels : List (Option ℕ)) (rows : List (List ℕ)) (root end : ℕ) where
  abbrev from : ℕ → ℕ
  from k = (link_at links k).from

  abbrev to : ℕ → ℕ
  to k = (link_at links k).to

  -- a link that the trail may take: it stands where its part's pointer points
  pub record MayTake (passed : List ℕ) (k : ℕ) : Type 0 where
    pub within : k < length links
    pub capacity : 0 < slice_index capacities k
    pub step : IsStep levels (from k) (to k)
    pub place : slice_index passed (to k) < length (part_row rows (to k))
    pub points : slice_index (part_row rows (to k)) (slice_index passed (to k)) ≡ k

  -- a trail back from the end to a part
  pub record OnShort (passed trail : List ℕ) (at : ℕ) : Type 0 where
    pub back : LeadsBack links trail at end
    pub each : (place : ℕ) → place < length trail → MayTake passed (slice_index trail place)
    pub falls : (p q : ℕ) → p < q → q < length trail → height levels (to (slice_index trail q)) < height levels (to (slice_index trail p))
    pub above : (place : ℕ) → place < length trail → height levels at < height levels (to (slice_index trail place))
    pub tall : height levels at + length trail ≡ height levels end

  -- what holds of a trail's links and of one more
  all_of : (P : ℕ → Type 0) (trail : List ℕ) (k : ℕ) → ((place : ℕ) → place < length trail → P (slice_index trail place)) → P k
      → (place : ℕ) → place < length (trail ++ k ∷ []) → P (slice_index (trail ++ k ∷ []) place)
  all_of P trail k old new place lt =
      let count = length-append trail (k ∷ []) in
      elim (cases_lt place (length trail)) as (λ _. P (slice_index (trail ++ k ∷ []) place)) [
        | inl before ↦ subst P (sym (get_or_append_left trail (k ∷ []) 0 place before)) (old place before)
        | inr behind ↦ subst P (sym (get_or_push trail k 0 place (omega arith))) new
      ]

  pub more : (passed trail : List ℕ) (at k : ℕ) → OnShort passed trail at → to k ≡ at → MayTake passed k → OnShort passed (trail ++ k ∷ []) (from k)
  more passed trail at k on leads may =
      let up = one_up levels (from k) (to k) may.step in
      let here_ : height levels (to k) ≡ height levels at = ap (height levels) leads in
      record {
        back = leads_more links trail at end k on.back leads;
        each = all_of (MayTake passed) trail k on.each may;
        falls = λ p q before lt.
            let count = length-append trail (k ∷ []) in
            let first = get_or_append_left trail (k ∷ []) 0 p (omega arith) in
            elim (cases_lt q (length trail)) as (λ _. height levels (to (slice_index (trail ++ k ∷ []) q)) < height levels (to (slice_index (trail ++ k ∷ []) p))) [
              | inl inside ↦ let second = get_or_append_left trail (k ∷ []) 0 q inside in rw (first, second) (on.falls p q before inside)
              | inr behind ↦ let second = get_or_push trail k 0 q (omega arith) in let higher = on.above p (omega arith) in rw (first, second) (omega arith)
            ];
        above = all_of (λ j. height levels (from k) < height levels (to j)) trail k (λ place lt. let higher = on.above place lt in omega arith) (omega arith);
        tall = let count = length-append trail (k ∷ []) in let tall = on.tall in omega arith;
      }

  -- pointers that change only at parts of at most the last part's level
  kept_on : (passed after trail : List ℕ) (at : ℕ) → OnShort passed trail at
      → ((p : ℕ) → height levels at < height levels p → slice_index after p ≡ slice_index passed p) → OnShort after trail at
  kept_on passed after trail at on same = record {
    back = on.back;
    each = λ place lt.
        let old = on.each place lt in
        let k : ℕ = slice_index trail place in
        let e = same (to k) (on.above place lt) in
        record { within = old.within; capacity = old.capacity; step = old.step; place = rw e old.place; points = rw e old.points };
    falls = on.falls;
    above = on.above;
    tall = on.tall;
  }

  -- a pointer goes one on
  record GoesOn (passed after : List ℕ) (at : ℕ) : Type 0 where
    here_ : slice_index after at ≡ slice_index passed at + 1
    others : (p : ℕ) → (p ≡ at → ⊥) → slice_index after p ≡ slice_index passed p

  goes_on : (passed : List ℕ) (at next : ℕ) → at < length passed → next ≡ slice_index passed at + 1 → GoesOn passed (set passed at next) at
  goes_on passed at next lt e = record {
    here_ = get_or-set_same passed at next 0 lt ∙ e;
    others = λ p other. get_or-set_other passed at p next 0 other;
  }

  dead_on : (passed after : List ℕ) (at p : ℕ) → GoesOn passed after at → IsDead rows root passed p → IsDead rows root after p
  dead_on passed after at p on dead = record {
    apart = dead.apart;
    all = let all = dead.all in
        elim (cases_eq p at) as (λ _. length (part_row rows p) ≤ slice_index after p) [
          | inl e ↦ let a = ap (slice_index after) e in let b = ap (slice_index passed) e in let c = on.here_ in omega arith
          | inr other ↦ let a = on.others p other in omega arith
        ];
  }

  -- a link may be passed that has no residual capacity, leads no level on or comes from a part whose links are passed
  passes : (passed after : List ℕ) (at k : ℕ) → GoesOn passed after at → ArePassed links capacities levels rows root passed
      → slice_index (part_row rows at) (slice_index passed at) ≡ k
      → (0 < slice_index capacities k → IsStep levels (from k) at → IsDead rows root passed (from k))
      → ArePassed links capacities levels rows root after
  passes passed after at k on old is here_ part place below inside capacity step =
      elim (cases_eq part at) as (λ _. IsDead rows root after (from (slice_index (part_row rows part) place))) [
        | inl e ↦
            let a = ap (slice_index after) e in let b = ap (slice_index passed) e in let c = on.here_ in
            elim (cases_lt place (slice_index passed part)) as (λ _. IsDead rows root after (from (slice_index (part_row rows part) place))) [
              | inl before ↦ dead_on passed after at _ on (old part place before inside capacity step)
              | inr behind ↦
                  let last : place ≡ slice_index passed at = omega arith in
                  let same : slice_index (part_row rows part) place ≡ k = ap (λ p. slice_index (part_row rows p) place) e ∙ ap (slice_index (part_row rows at)) last ∙ is in
                  subst (λ j. IsDead rows root after (from j)) (sym same)
                  (dead_on passed after at (from k) on
                  (here_ (subst (λ j. 0 < slice_index capacities j) same capacity) (subst (λ p. IsStep levels (from k) p) e (subst (λ j. IsStep levels (from j) part) same step))))
            ]
        | inr other ↦ let a = on.others part other in dead_on passed after at _ on (old part place (omega arith) inside capacity step)
      ]

  less_left : (passed after : List ℕ) (at parts : ℕ) → at < parts → GoesOn passed after at → slice_index passed at < length (part_row rows at)
      → left_below rows passed parts ≡ left_below rows after parts + 1
  less_left passed after at parts lt on some =
      sum_change parts (λ p. length (part_row rows p) - slice_index after p) (λ p. length (part_row rows p) - slice_index passed p) at 1 lt
      (let here_ = on.here_ in omega arith)
      (λ p below other. let e = on.others p other in rw e refl)

  -- the state of the search
  pub record State (passed trail : List ℕ) (at parts : ℕ) : Type 0 where
    pub places : length passed ≡ parts
    pub inside : at < parts
    pub on : OnShort passed trail at
    pub passed_ : ArePassed links capacities levels rows root passed

  abbrev pub measure : List ℕ → ℕ → ℕ → ℕ
  measure passed at parts = 2 * left_below rows passed parts + height levels at

  -- what a step leaves
  pub record Stepped (passed trail : List ℕ) (at : ℕ) (after trail_after : List ℕ) (at_after parts : ℕ) : Type 0 where
    pub state : State after trail_after at_after parts
    pub less : measure after at_after parts < measure passed at parts

  module _ (passed trail : List ℕ) (at parts : ℕ) (state : State passed trail at parts) (hold : AreRowsIn links rows) (all_in : (k : ℕ) → k < length links → from k < parts) where
    abbrev here_link : ℕ
    here_link = slice_index (part_row rows at) (slice_index passed at)

    pub takes : slice_index passed at < length (part_row rows at) → 0 < slice_index capacities here_link → IsStep levels (from here_link) at
        → Stepped passed trail at passed (trail ++ here_link ∷ []) (from here_link) parts
    takes lt capacity step =
        let sound = hold.sound at (slice_index passed at) lt in
        let leads : to here_link ≡ at = sound.1 in
        let may : MayTake passed here_link = record {
          within = sound.0;
          capacity = capacity;
          step = subst (IsStep levels (from here_link)) (sym leads) step;
          place = rw leads lt;
          points = rw leads refl;
        } in
        let up = one_up levels (from here_link) at step in
        record {
          state = record { places = state.places; inside = all_in here_link sound.0; on = more passed trail at here_link state.on leads may; passed_ = state.passed_ };
          less = omega arith;
        }

    pub passes_one : slice_index passed at < length (part_row rows at) → (0 < slice_index capacities here_link → IsStep levels (from here_link) at → ⊥)
        → (next : ℕ) → next ≡ slice_index passed at + 1 → Stepped passed trail at (set passed at next) trail at parts
    passes_one lt not next e =
        let inside = state.inside in let places = state.places in
        let on = goes_on passed at next (omega arith) e in
        let less = less_left passed (set passed at next) at parts inside on lt in
        record {
          state = record {
            places = length-set passed at next ∙ places;
            inside = inside;
            on = kept_on passed (set passed at next) trail at state.on (λ p higher. on.others p (λ q. let same = ap (height levels) q in omega arith));
            passed_ = passes passed (set passed at next) at here_link on state.passed_ refl (λ capacity step. absurd (not capacity step));
          };
          less = omega arith;
        }

  -- one link back, where all links to the last part are passed
  pub goes_back : (passed trail : List ℕ) (k at parts : ℕ) → State passed (trail ++ k ∷ []) at parts → AreRowsIn links rows → ((j : ℕ) → j < length links → to j < parts)
      → (at ≡ root → ⊥) → length (part_row rows at) ≤ slice_index passed at
      → (next : ℕ) → next ≡ slice_index passed (to k) + 1 → Stepped passed (trail ++ k ∷ []) at (set passed (to k) next) trail (to k) parts
  goes_back passed trail k at parts state hold all_in apart all next e =
      let count = length-append trail (k ∷ []) in
      let is_last = get_or_push trail k 0 (length trail) refl in
      let may : MayTake passed k = subst (MayTake passed) is_last (state.on.each (length trail) (omega arith)) in
      let back = leads_less links trail at end k state.on.back in
      let inside = all_in k may.within in let places = state.places in
      let on = goes_on passed (to k) next (omega arith) e in
      let less = less_left passed (set passed (to k) next) (to k) parts inside on may.place in
      let up = one_up levels (from k) (to k) may.step in
      let same = ap (height levels) back.1 in
      let before : OnShort passed trail (to k) = record {
        back = back.0;
        each = λ place lt. subst (MayTake passed) (get_or_append_left trail (k ∷ []) 0 place lt) (state.on.each place (omega arith));
        falls = λ p q less lt. let a = get_or_append_left trail (k ∷ []) 0 p (omega arith) in let b = get_or_append_left trail (k ∷ []) 0 q lt in rw (sym a, sym b) (state.on.falls p q less (omega arith));
        above = λ place lt. let a = get_or_append_left trail (k ∷ []) 0 place lt in
            subst (λ j. height levels (to j) < height levels (to (slice_index trail place))) is_last
            (subst (λ j. height levels (to (slice_index (trail ++ k ∷ []) (length trail))) < height levels (to j)) a (state.on.falls place (length trail) lt (omega arith)));
        tall = let tall = state.on.tall in omega arith;
      } in
      record {
        state = record {
          places = length-set passed (to k) next ∙ places;
          inside = inside;
          on = kept_on passed (set passed (to k) next) trail (to k) before (λ p higher. on.others p (λ q. let same = ap (height levels) q in omega arith));
          passed_ = passes passed (set passed (to k) next) (to k) k on state.passed_ may.points
              (λ capacity step. record { apart = λ q. apart (sym back.1 ∙ q); all = subst (λ p. length (part_row rows p) ≤ slice_index passed p) (sym back.1) all });
        };
        less = omega arith;
      }

  -- no trail is left
  pub no_trail_left : (passed : List ℕ) (at parts : ℕ) → State passed [] at parts → (at ≡ root → ⊥) → length (part_row rows at) ≤ slice_index passed at → IsDead rows root passed end
  no_trail_left passed at parts state apart all =
      let same : end ≡ at = state.on.back in
      record { apart = λ e. apart (sym same ∙ e); all = subst (λ p. length (part_row rows p) ≤ slice_index passed p) (sym same) all }

-- a link at a place of a row
pub at_place : (row : List ℕ) (place k : ℕ) → Some k ≡ slice_get row place → (place < length row) × (slice_index row place ≡ k)
at_place row place k e = (slice_get_within row place k (sym e), get_or_from_slice_get row place k 0 (sym e))

pub past_row : (row : List ℕ) (place : ℕ) → None ≡ slice_get row place → length row ≤ place
past_row row place e =
    elim (cases_lt place (length row)) as (λ _. length row ≤ place) [
      | inl inside ↦ let got = slice_get-get_or row place 0 inside in absurd (none_some (e ∙ got))
      | inr past ↦ omega arith
    ]
  where
    none_some : {k : ℕ} → None ≡ Some k → ⊥
    none_some q = cc

module _ (links : List Link) (capacities : List ℕ) (levels : List (Option ℕ)) (rows : List (List ℕ)) (root end : ℕ) (passed trail : List ℕ) where
  -- the three steps in the words of the code
  pub takes_at : (at parts : ℕ) → State links capacities levels rows root end passed trail at parts → AreRowsIn links rows → ((k : ℕ) → k < length links → (link_at links k).from < parts)
      → (k : ℕ) → Some k ≡ slice_get (part_row rows at) (slice_index passed at) → 0 < slice_index capacities k → IsStep levels (link_at links k).from (link_at links k).to
      → Stepped links capacities levels rows root end passed trail at passed (trail ++ k ∷ []) (link_at links k).from parts
  takes_at at parts state hold froms k got capacity step =
      let there = at_place (part_row rows at) (slice_index passed at) k got in
      let leads = (hold.sound at (slice_index passed at) there.0).1 in
      subst (λ j. Stepped links capacities levels rows root end passed trail at passed (trail ++ j ∷ []) (link_at links j).from parts) there.1
      (takes links capacities levels rows root end passed trail at parts state hold froms there.0 (subst (λ j. 0 < slice_index capacities j) (sym there.1) capacity)
      (subst (IsStep levels (link_at links (slice_index (part_row rows at) (slice_index passed at))).from) leads (subst (λ j. IsStep levels (link_at links j).from (link_at links j).to) (sym there.1) step)))

  pub passes_at : (at parts : ℕ) → State links capacities levels rows root end passed trail at parts → AreRowsIn links rows → ((k : ℕ) → k < length links → (link_at links k).from < parts)
      → (k : ℕ) → Some k ≡ slice_get (part_row rows at) (slice_index passed at) → (0 < slice_index capacities k → IsStep levels (link_at links k).from (link_at links k).to → ⊥)
      → (next : ℕ) → next ≡ slice_index passed at + 1 → Stepped links capacities levels rows root end passed trail at (set passed at next) trail at parts
  passes_at at parts state hold froms k got not next e =
      let there = at_place (part_row rows at) (slice_index passed at) k got in
      let leads = (hold.sound at (slice_index passed at) there.0).1 in
      passes_one links capacities levels rows root end passed trail at parts state hold froms there.0
      (λ capacity step. not (subst (λ j. 0 < slice_index capacities j) there.1 capacity)
      (subst (λ j. IsStep levels (link_at links j).from (link_at links j).to) there.1 (subst (IsStep levels (link_at links (slice_index (part_row rows at) (slice_index passed at))).from) (sym leads) step))) next e

  pub back_at : (less : List ℕ) (k at parts : ℕ) → trail ≡ less ++ k ∷ [] → State links capacities levels rows root end passed trail at parts → AreRowsIn links rows
      → ((j : ℕ) → j < length links → (link_at links j).to < parts) → (at ≡ root → ⊥) → length (part_row rows at) ≤ slice_index passed at
      → (next : ℕ) → next ≡ slice_index passed (link_at links k).to + 1 → Stepped links capacities levels rows root end passed trail at (set passed (link_at links k).to next) less (link_at links k).to parts
  back_at less k at parts is state hold tos apart all next e =
      let here_ = goes_back links capacities levels rows root end passed less k at parts (subst (λ w. State links capacities levels rows root end passed w at parts) is state) hold tos apart all next e in
      record { state = here_.state; less = here_.less }

  -- the last link of a trail stands where its part's pointer points
  pub may_at : (less : List ℕ) (k at parts : ℕ) → trail ≡ less ++ k ∷ [] → State links capacities levels rows root end passed trail at parts → MayTake links capacities levels rows root end passed k
  may_at less k at parts is state =
      let count = length-append less (k ∷ []) in
      let size = ap length is in
      subst (MayTake links capacities levels rows root end passed) (ap (λ w. slice_index w (length less)) is ∙ get_or_push less k 0 (length less) refl) (state.on.each (length less) (omega arith))

-- the state of the search, whose trail stands at the front of a buffer
pub record Buffered (links : List Link) (capacities : List ℕ) (levels : List (Option ℕ)) (rows : List (List ℕ)) (root end : ℕ) (passed buffer : List ℕ) (count at parts : ℕ) : Type 0 where
  pub fits : count ≤ length buffer
  pub long : height levels end ≤ length buffer
  pub state : State links capacities levels rows root end passed (take count buffer) at parts

module _ (links : List Link) (capacities : List ℕ) (levels : List (Option ℕ)) (rows : List (List ℕ)) (root end : ℕ) (passed buffer : List ℕ) (count at parts : ℕ)
    (has : Buffered links capacities levels rows root end passed buffer count at parts) where
  trail_length : length (take count buffer) ≡ count
  trail_length = let fits = has.fits in length-take-le count buffer fits

  -- there is a place for one link more
  pub fits_more : (k : ℕ) → (link_at links k).to ≡ at → IsStep levels (link_at links k).from (link_at links k).to → count < length buffer
  fits_more k leads step =
      let up = one_up levels (link_at links k).from (link_at links k).to step in
      let same = ap (height levels) leads in
      let tall = has.state.on.tall in let size = trail_length in let long = has.long in omega arith

  -- one link more, at the end of the trail
  pub takes_buffered : AreRowsIn links rows → ((k : ℕ) → k < length links → (link_at links k).from < parts)
      → (k : ℕ) → Some k ≡ slice_get (part_row rows at) (slice_index passed at) → 0 < slice_index capacities k → IsStep levels (link_at links k).from (link_at links k).to
      → Buffered links capacities levels rows root end passed (set buffer count k) (count + 1) (link_at links k).from parts
      × (measure links capacities levels rows root end passed (link_at links k).from parts < measure links capacities levels rows root end passed at parts)
  takes_buffered hold froms k got capacity step =
      let there = at_place (part_row rows at) (slice_index passed at) k got in
      let leads : (link_at links k).to ≡ at = subst (λ j. (link_at links j).to ≡ at) there.1 (hold.sound at (slice_index passed at) there.0).1 in
      let stepped = takes_at links capacities levels rows root end passed (take count buffer) at parts has.state hold froms k got capacity step in
      let lt = fits_more k leads step in
      let size = length-set buffer count k in let long = has.long in
      (record { fits = omega arith; long = omega arith; state = subst (λ w. State links capacities levels rows root end passed w (link_at links k).from parts) (sym (take_more_set buffer count k lt)) stepped.state }, stepped.less)

  pub passes_buffered : AreRowsIn links rows → ((k : ℕ) → k < length links → (link_at links k).from < parts)
      → (k : ℕ) → Some k ≡ slice_get (part_row rows at) (slice_index passed at) → (0 < slice_index capacities k → IsStep levels (link_at links k).from (link_at links k).to → ⊥)
      → (next : ℕ) → next ≡ slice_index passed at + 1
      → Buffered links capacities levels rows root end (set passed at next) buffer count at parts
      × (measure links capacities levels rows root end (set passed at next) at parts < measure links capacities levels rows root end passed at parts)
  passes_buffered hold froms k got not next e =
      let stepped = passes_at links capacities levels rows root end passed (take count buffer) at parts has.state hold froms k got not next e in
      (record { fits = has.fits; long = has.long; state = stepped.state }, stepped.less)

  -- the trail without its last link
  pub last_link : (less : ℕ) → less + 1 ≡ count → take count buffer ≡ take less buffer ++ slice_index buffer less ∷ []
  last_link less e = let fits = has.fits in ap (λ c. take c buffer) (sym e) ∙ take_more buffer less 0 (omega arith)

  pub may_buffered : (less : ℕ) → less + 1 ≡ count → MayTake links capacities levels rows root end passed (slice_index buffer less)
  may_buffered less e = may_at links capacities levels rows root end passed (take count buffer) (take less buffer) (slice_index buffer less) at parts (last_link less e) has.state

  pub back_buffered : (less : ℕ) → less + 1 ≡ count → AreRowsIn links rows → ((j : ℕ) → j < length links → (link_at links j).to < parts) → (at ≡ root → ⊥) → length (part_row rows at) ≤ slice_index passed at
      → (next : ℕ) → next ≡ slice_index passed (link_at links (slice_index buffer less)).to + 1
      → Buffered links capacities levels rows root end (set passed (link_at links (slice_index buffer less)).to next) buffer less (link_at links (slice_index buffer less)).to parts
      × (measure links capacities levels rows root end (set passed (link_at links (slice_index buffer less)).to next) (link_at links (slice_index buffer less)).to parts < measure links capacities levels rows root end passed at parts)
  back_buffered less e hold tos apart all next is =
      let stepped = back_at links capacities levels rows root end passed (take count buffer) (take less buffer) (slice_index buffer less) at parts (last_link less e) has.state hold tos apart all next is in
      (record { fits = let fits = has.fits in omega arith; long = has.long; state = stepped.state }, stepped.less)

  pub none_left : count ≡ 0 → (at ≡ root → ⊥) → length (part_row rows at) ≤ slice_index passed at → IsDead rows root passed end
  none_left none apart all =
      no_trail_left links capacities levels rows root end passed at parts (subst (λ c. State links capacities levels rows root end passed (take c buffer) at parts) none has.state) apart all
