-- A search of a graph by rows, one visit at a time.
use Rattle.std.proofs.Common.{◌≡◌, ℕ, ◌+◌, ◌<◌, ◌≤◌, Bool, true, false, List, [], ◌∷◌, ◌++◌, length, set, cond, sym, ap, subst, ◌∙◌, arith, ◌⊎◌, inl, inr, not, slice_index, take, replicate, length-append, length-set}
use Rattle.std.specs.Prelude.{IsTrue, ◌↔◌}
use Rattle.std.specs.List.{Contains}
use Rattle.std.proofs.lemmas.Bool.{cases_lt, cases_eq, false≢true}
use Rattle.std.proofs.lemmas.List.{get_or-set_same, get_or-set_other, get_or_append_left, length-replicate, append_assoc, get_or_default}
use Rattle.std.proofs.Math.Seq.{take-append_seam}
use Rattle.std.proofs.lemmas.List.Sums.{sum_by-set}
use Rattle.std.proofs.lemmas.List.Elements.{Contains-push_cases, Contains-append_left, Contains-push, Contains-get_or}
use Rattle.bl_base.proofs.Lists.{replicate_or}
use Rattle.bl_base.proofs.Members.{none_in}
use Rattle.bl_graph.specs.Arcs.{row_at, is_in, unmarked}
use Rattle.bl_transient.specs.Reachability.{Reached, root, step, IsVisited, SearchState}

-- the marks that a slice of a vector leaves
pub given_back : (new rest : List Bool) (n : ℕ) → n ≡ length new → take n (new ++ rest) ≡ new
given_back new rest n e = ap (λ m. take m (new ++ rest)) e ∙ take-append_seam new rest

-- 1 for what is not marked
abbrev missing : Bool → ℕ
missing b = cond (not b) 1 0

module _ (row : List ℕ) (old new : List Bool) (queue more : List ℕ) (visited : IsVisited row old new queue more) (u : ℕ) where
  -- the next node is marked already
  pub visited_no : IsTrue (is_in new u) → IsVisited (row ++ u ∷ []) old new queue more
  visited_no marked = record {
    places = visited.places;
    kept = visited.kept;
    taken = λ v h. elim (Contains-push_cases row u v h) as (λ _. IsTrue (is_in new v)) [ inl there ↦ visited.taken v there | inr e ↦ subst (λ w. IsTrue (is_in new w)) e marked ];
    from = λ v h. elim (visited.from v h) as (λ _. IsTrue (is_in old v) ⊎ Contains (row ++ u ∷ []) v) [ inl was ↦ inl was | inr there ↦ inr (Contains-append_left row (u ∷ []) v there) ];
    front = visited.front;
    queued = visited.queued;
    back = visited.back;
    counts = visited.counts;
  }

  module _ (fresh : is_in new u ≡ false) (within : u < length new) where
    abbrev after : List Bool
    after = set new u true

    here_now : IsTrue (is_in after u)
    here_now = get_or-set_same new u true false within

    elsewhere : (v : ℕ) → (v ≡ u → ⊥) → is_in after v ≡ is_in new v
    elsewhere v apart = get_or-set_other new u v true false apart

    still : (v : ℕ) → IsTrue (is_in new v) → IsTrue (is_in after v)
    still v h =
        elim (cases_eq v u) as (λ _. IsTrue (is_in after v)) [
          | inl e ↦ subst (λ w. IsTrue (is_in after w)) (sym e) here_now
          | inr apart ↦ elsewhere v apart ∙ h
        ]

    was : (v : ℕ) → IsTrue (is_in after v) → (IsTrue (is_in new v)) ⊎ (u ≡ v)
    was v h =
        elim (cases_eq v u) as (λ _. (IsTrue (is_in new v)) ⊎ (u ≡ v)) [
          | inl e ↦ inr (sym e)
          | inr apart ↦ inl (sym (elsewhere v apart) ∙ h)
        ]

    one_less : unmarked after + length (more ++ u ∷ []) ≡ unmarked new + length more
    one_less =
        let longer = length-append more (u ∷ []) in
        let counts = sum_by-set missing new u true false within in
        let one : missing (is_in new u) ≡ 1 = ap missing fresh in
        omega arith

    -- the next node is marked now
    pub visited_yes : IsVisited (row ++ u ∷ []) old after queue (more ++ u ∷ [])
    visited_yes = record {
      places = length-set new u true ∙ visited.places;
      kept = λ v h. still v (visited.kept v h);
      taken = λ v h. elim (Contains-push_cases row u v h) as (λ _. IsTrue (is_in after v)) [ inl there ↦ still v (visited.taken v there) | inr e ↦ subst (λ w. IsTrue (is_in after w)) e here_now ];
      from = λ v h. elim (was v h) as (λ _. IsTrue (is_in old v) ⊎ Contains (row ++ u ∷ []) v) [
        | inl before ↦ elim (visited.from v before) as (λ _. IsTrue (is_in old v) ⊎ Contains (row ++ u ∷ []) v) [ inl first ↦ inl first | inr there ↦ inr (Contains-append_left row (u ∷ []) v there) ]
        | inr e ↦ inr (subst (λ w. Contains (row ++ u ∷ []) w) e (Contains-push row u))
      ];
      front = (visited.front.0 ++ u ∷ [], ap (λ l. l ++ u ∷ []) visited.front.1 ∙ append_assoc queue visited.front.0 (u ∷ []));
      queued = λ all v h. elim (Contains-push_cases more u v h) as (λ _. IsTrue (is_in after v)) [ inl there ↦ still v (visited.queued all v there) | inr e ↦ subst (λ w. IsTrue (is_in after w)) e here_now ];
      back = λ all v h. elim (was v h) as (λ _. Contains (more ++ u ∷ []) v) [ inl before ↦ Contains-append_left more (u ∷ []) v (visited.back all v before) | inr e ↦ subst (λ w. Contains (more ++ u ∷ []) w) e (Contains-push more u) ];
      counts = let less = one_less in let counts = visited.counts in omega arith;
    }

-- the roots are visited first
pub search_begins : (rows : List (List ℕ)) (roots : List ℕ) (n : ℕ) (none marks : List Bool) (queue : List ℕ) → n ≡ length rows → none ≡ replicate n false → IsVisited roots none marks [] queue → SearchState rows roots marks queue 0
search_begins rows roots n none marks queue same clear visited =
    let unmarked_ : (v : ℕ) → IsTrue (is_in none v) → ⊥ = λ v h. false≢true (sym (ap (λ l. is_in l v) clear ∙ replicate_or n v false) ∙ h) in
    record {
      places = visited.places ∙ (ap length clear ∙ (length-replicate {A = Bool} n false ∙ same));
      in_order = omega arith;
      begun = visited.taken;
      queued = visited.queued (λ v h. absurd (none_in v h));
      back = visited.back (λ v h. absurd (unmarked_ v h));
      done = λ place lt. absurd (omega arith);
      sound = λ v h. elim (visited.from v h) as (λ _. Reached rows roots v) [ inl was ↦ absurd (unmarked_ v was) | inr there ↦ root v there ];
    }

module _ (rows : List (List ℕ)) (roots : List ℕ) (marks : List Bool) (queue : List ℕ) (next : ℕ) (state : SearchState rows roots marks queue next) where
  -- the next node of the queue is visited
  pub search_next : (new : List Bool) (more row : List ℕ) → next < length queue → row ≡ row_at rows (slice_index queue next) → IsVisited row marks new queue more → SearchState rows roots new more (next + 1)
  search_next new more row lt is visited =
      let front = visited.front in
      let long : length more ≡ length queue + length front.0 = ap length front.1 ∙ length-append queue front.0 in
      let same : (place : ℕ) → place < length queue → slice_index more place ≡ slice_index queue place = λ place less. ap (λ l. slice_index l place) front.1 ∙ get_or_append_left queue front.0 0 place less in
      let order = state.in_order in
      record {
        places = visited.places ∙ state.places;
        in_order = omega arith;
        begun = λ v h. visited.kept v (state.begun v h);
        queued = visited.queued state.queued;
        back = visited.back state.back;
        done = λ place below v h.
            elim (cases_lt place next) as (λ _. IsTrue (is_in new v)) [
              | inl less ↦ visited.kept v (state.done place less v (subst (λ u. Contains (row_at rows u) v) (same place (omega arith)) h))
              | inr last ↦
                  let e : place ≡ next = omega arith in
                  let at_next : slice_index more place ≡ slice_index queue next = same place (omega arith) ∙ ap (slice_index queue) e in
                  visited.taken v (subst (λ l. Contains l v) (sym is) (subst (λ u. Contains (row_at rows u) v) at_next h))
            ];
        sound = λ v h.
            elim (visited.from v h) as (λ _. Reached rows roots v) [
              | inl was ↦ state.sound v was
              | inr there ↦
                  let u : ℕ = slice_index queue next in
                  step u v (state.sound u (state.queued u (Contains-get_or queue next 0 lt))) (subst (λ l. Contains l v) is there)
            ];
      }

  -- nothing is left in the queue
  module _ (ended : length queue ≤ next) where
    all_marked : (v : ℕ) → Reached rows roots v → IsTrue (is_in marks v)
    all_marked v (root _ h) = state.begun v h
    all_marked v (step u _ before h) =
        let there = state.back u (all_marked u before) in
        let lt = there.1 in
        let found : slice_index queue there.0 ≡ u = sym (get_or_default queue there.0 u 0 there.1) ∙ there.2 in
        state.done there.0 (omega arith) v (subst (λ w. Contains (row_at rows w) v) (sym found) h)

    pub search_ends : (v : ℕ) → IsTrue (is_in marks v) ↔ Reached rows roots v
    search_ends v = (state.sound v, all_marked v)
