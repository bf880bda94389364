use Rattle.std.proofs.Common.{arith, ◌≡◌, ◌≤◌, ℕ, List, length, slice_index, take, drop, ◌++◌, None, Some, refl, sym, ap, subst, ◌∙◌, inl, inr, replicate, length-set}
use Rattle.std.specs.List.{Contains}
use Rattle.std.proofs.lemmas.List.{get_or_default, length-replicate, take-append-drop}
use Rattle.std.proofs.lemmas.List.Elements.{Contains-append_left}
use Rattle.bl_flow.specs.Split.{link_at}
use Rattle.bl_flow.specs.Searches.{part_row}
use Rattle.bl_flow.specs.Levels.{level_at, IsSteep, Following, Spread}
use Rattle.bl_flow.proofs.LevelSearch.{first_level, root_sound, group_state, behind_sound, behind_full, steep_of, all_levels, levels_to_end}
use Rattle.bl_flow.proofs.LastLevels.{given_back}
use Rattle.bl_flow.proofs.search.part_levels.Goals as goal
use Rattle.bl_flow.proofs.search.part_levels.Goals.{After-drop-queue-inside-2}

pub loop-rest-init : goal.loop-rest-init
loop-rest-init c =
    let none : c.in_ok-levels.levels.items ≡ replicate (length c.args.split.now.rows) None = c.in_ok-levels.ensures ∙ ap (λ m. replicate m None) c.len.ensures in
    rw (none, c.new-queue.ensures, c.of.ensures) (record {
      places = length-set _ c.args.root _ ∙ length-replicate (length c.args.split.now.rows) None;
      empty = refl;
      state = first_level c.args.split.now.links c.args.capacities.now c.args.root c.args.end (length c.args.split.now.rows) c.args.stops c.requires.root_in;
      sound = root_sound c.args.split.now.links c.args.split.now.rows c.args.root c.args.end c.row_before-rest.result.now c.requires.linked.rows_out c.row_before-rest.ensures.last c.row_before-rest.ensures.before;
      full = λ apart k lt some from.
          inl (subst (λ r. Contains r k) (sym (c.row_before-rest.ensures.before apart)) (subst (λ p. Contains (part_row c.args.split.now.rows p) k) from (c.requires.linked.rows_out.full k lt)));
    })

pub follow-requires-clause-within : goal.follow-requires-clause-within
follow-requires-clause-within c = λ place lt.
    let loop = c.loop-rest in
    let parts : loop.rest.now ≡ c.split_at.result.0.now ++ c.split_at.result.1.now =
    sym (take-append-drop c.min.result loop.rest.now) ∙ ap (λ a. a ++ drop c.min.result loop.rest.now) (sym c.split_at.ensures.front) ∙ ap (λ b. c.split_at.result.0.now ++ b) (sym c.split_at.ensures.back) in
    let group : List ℕ = c.split_at.result.0.now in
    (loop.invariant.sound (slice_index group place) (subst (λ r. Contains r (slice_index group place)) (sym parts)
    (Contains-append_left group c.split_at.result.1.now (slice_index group place) (place, lt, get_or_default group place (slice_index group place) 0 lt)))).0

pub loop-rest-preserved : goal.loop-rest-preserved
loop-rest-preserved c =
    let loop = c.loop-rest in
    let parts : loop.rest.now ≡ c.split_at.result.0.now ++ c.split_at.result.1.now =
    sym (take-append-drop c.min.result loop.rest.now) ∙ ap (λ a. a ++ drop c.min.result loop.rest.now) (sym c.split_at.ensures.front) ∙ ap (λ b. c.split_at.result.0.now ++ b) (sym c.split_at.ensures.back) in
    let size_1 = c.follow.auto.levels in let lent_1 = c.deref_mut.ensures.len in let value_1 = ap length c.deref_mut.ensures.value in
    let size_2 = c.spread.auto.levels in let lent_2 = c.deref_mut-in-loop-rest.ensures.len in let value_2 = ap length c.deref_mut-in-loop-rest.ensures.value in
    let back_1 : take loop.levels.len (c.follow.new.levels ++ drop (length c.follow.new.levels) loop.levels.items) ≡ c.follow.new.levels =
    given_back c.follow.new.levels (drop (length c.follow.new.levels) loop.levels.items) loop.levels.len (omega arith) in
    let same = ap length back_1 in
    let back_2 : take loop.levels.len (c.spread.new.levels ++ drop (length c.spread.new.levels) (take loop.levels.len (c.follow.new.levels ++ drop (length c.follow.new.levels) loop.levels.items))) ≡ c.spread.new.levels =
    given_back c.spread.new.levels (drop (length c.spread.new.levels) (take loop.levels.len (c.follow.new.levels ++ drop (length c.follow.new.levels) loop.levels.items))) loop.levels.len (omega arith) in
    let followed : Following c.args.split.now.links c.split_at.result.0.now c.args.capacities.now loop.levels.items loop.queue 0 (length c.split_at.result.0.now) c.follow.new.levels c.follow.new.queue =
    subst (λ m. Following c.args.split.now.links c.split_at.result.0.now c.args.capacities.now m loop.queue 0 (length c.split_at.result.0.now) c.follow.new.levels c.follow.new.queue) c.deref_mut.ensures.value c.in_ok-follow.ensures in
    let spread : Spread c.args.split.now.links c.args.capacities.now c.args.end c.args.stops c.follow.new.levels c.follow.new.queue c.spread.new.levels c.spread.new.queue 0 =
    subst (λ m. Spread c.args.split.now.links c.args.capacities.now c.args.end c.args.stops m c.follow.new.queue c.spread.new.levels c.spread.new.queue 0) (c.deref_mut-in-loop-rest.ensures.value ∙ back_1) c.in_ok-visited.ensures.spread in
    let places = loop.invariant.places in
    rw back_2 (record {
      places = let a = followed.places in let b = spread.places in omega arith;
      empty = c.in_ok-visited.ensures.empty;
      state = group_state c.args.split.now.links c.args.capacities.now c.args.root c.args.end c.args.stops loop.levels.items loop.queue loop.rest.now c.split_at.result.0.now c.split_at.result.1.now
          c.follow.new.levels c.follow.new.queue c.spread.new.levels c.spread.new.queue parts loop.invariant.state loop.invariant.sound followed spread;
      sound = behind_sound c.args.split.now.links c.args.capacities.now c.args.root c.args.end c.args.stops loop.levels.items loop.queue loop.rest.now c.split_at.result.0.now c.split_at.result.1.now
          c.follow.new.levels c.follow.new.queue c.spread.new.levels c.spread.new.queue parts loop.invariant.state loop.invariant.sound followed spread;
      full = λ apart k lt some from.
          behind_full c.args.split.now.links c.args.capacities.now c.args.root c.args.end c.args.stops loop.levels.items loop.queue loop.rest.now c.split_at.result.0.now c.split_at.result.1.now
          c.follow.new.levels c.follow.new.queue c.spread.new.levels c.spread.new.queue parts loop.invariant.state loop.invariant.sound followed spread k some (loop.invariant.full apart k lt some from);
    })

root_steep : (c : After-drop-queue-inside-2) → IsSteep c.args.split.now.links c.args.capacities.now c.args.end c.loop-rest.levels.items c.args.root
root_steep c =
    let loop = c.loop-rest in
    let none : length loop.rest.now ≡ 0 = let test = c.loop-rest-test.false in omega arith in
    steep_of c.args.split.now.links c.args.capacities.now c.args.root c.args.end c.args.stops loop.levels.items c.args.root 0 loop.invariant.state.root_level
    (λ apart k lt some from.
    elim (loop.invariant.full apart k lt some from) as (λ _. (e : ℕ) × (level_at loop.levels.items (link_at c.args.split.now.links k).to ≡ Some e) × (e ≤ 1)) [
      | inl there ↦ let place_in = there.1 in absurd (omega arith)
      | inr near ↦ near
    ])

pub returns-clause-least : goal.returns-clause-least
returns-clause-least c =
    all_levels c.args.split.now.links c.args.capacities.now c.args.root c.args.end c.args.stops c.loop-rest.levels.items c.loop-rest.queue 0
    (let empty = c.loop-rest.invariant.empty in omega arith) c.loop-rest.invariant.state (root_steep c)

pub returns-clause-to_end : goal.returns-clause-to_end
returns-clause-to_end c =
    levels_to_end c.args.split.now.links c.args.capacities.now c.args.root c.args.end c.args.stops c.loop-rest.levels.items c.loop-rest.queue 0
    (let empty = c.loop-rest.invariant.empty in omega arith) c.loop-rest.invariant.state (root_steep c)
