-- After a blocking flow each walk to the end is longer.
use Rattle.std.proofs.Common.{◌≡◌, ℕ, suc, ◌<◌, ◌≤◌, List, Option, Some, length, slice_index, arith, inl, inr, subst, refl, sym, ap, ◌∙◌}
use Rattle.std.proofs.lemmas.Bool.{cases_lt}
use Rattle.std.proofs.lemmas.List.{get_or_default}
use Rattle.bl_flow.specs.declared.split.Link.{Link}
use Rattle.bl_flow.specs.Split.{link_at}
use Rattle.bl_flow.specs.Searches.{part_row}
use Rattle.bl_flow.specs.Levels.{IsReached, here, onward, level_at, AreLevelsToEnd, IsStep, AreLater, AreRowsIn, IsDead, ArePassed, HasRisen}
use Rattle.bl_flow.proofs.LevelSearch.{some_same}

-- a part's level is at most the length of a walk to it, and a part all of whose links are passed has a lower one
record Kept (levels : List (Option ℕ)) (rows : List (List ℕ)) (root : ℕ) (passed : List ℕ) (steps part : ℕ) : Type 0 where
  level : ℕ
  is : level_at levels part ≡ Some level
  most : level ≤ steps
  alive : level ≡ steps → IsDead rows root passed part → ⊥

module _ (links : List Link) (old now : List ℕ) (root end : ℕ) (levels : List (Option ℕ)) (rows : List (List ℕ)) (passed : List ℕ)
    (are : AreLevelsToEnd links old root end levels) (later : AreLater links levels old now) (in_rows : AreRowsIn links rows)
    (blocked : ArePassed links now levels rows root passed) where
  -- a walk of so many links is no longer than the end's level
  abbrev Near : ℕ → Type 0
  Near steps = (d : ℕ) → level_at levels end ≡ Some d → steps ≤ d

  -- a link leads at most one level on
  steep : (k d : ℕ) → Near (suc d) → k < length links → 0 < slice_index now k → ((link_at links k).from ≡ end → ⊥) → level_at levels (link_at links k).from ≡ Some d
      → (e : ℕ) × (level_at levels (link_at links k).to ≡ Some e) × (e ≤ suc d)
  steep k d near lt capacity goes is =
      elim (later k lt capacity) as (λ _. (e : ℕ) × (level_at levels (link_at links k).to ≡ Some e) × (e ≤ suc d)) [
        | inl had ↦ are.least (link_at links k).to (suc d) (onward d (link_at links k).to k lt had (are.sound (link_at links k).from d is) goes refl) near
        | inr back ↦ let same = some_same (sym back.after ∙ is) in (back.level, back.before, omega arith)
      ]

  -- a link with residual capacity one level on from a part to a dead one comes from a dead one
  dead_before : (k d : ℕ) → k < length links → 0 < slice_index now k → level_at levels (link_at links k).from ≡ Some d
      → level_at levels (link_at links k).to ≡ Some (suc d) → IsDead rows root passed (link_at links k).to → IsDead rows root passed (link_at links k).from
  dead_before k d lt capacity before after dead =
      let found = in_rows.full k lt in
      let e : slice_index (part_row rows (link_at links k).to) found.0 ≡ k = get_or_default (part_row rows (link_at links k).to) found.0 0 k found.1 ∙ found.2 in
      subst (λ j. IsDead rows root passed (link_at links j).from) e
      (blocked (link_at links k).to found.0 (let all = dead.all in let below = found.1 in omega arith) found.1
      (subst (λ j. 0 < slice_index now j) (sym e) capacity)
      (subst (λ j. IsStep levels (link_at links j).from (link_at links k).to) (sym e) (record { level = d; before = before; after = after })))

  kept : (steps part : ℕ) → IsReached links now root end steps part → Near steps → Kept levels rows root passed steps part
  kept _ _ here near =
      let first = are.least root 0 here near in
      record { level = first.0; is = first.1; most = first.2; alive = λ _ dead. dead.apart refl }
  kept _ _ (onward steps part k lt capacity there goes e) near =
      let before = kept steps (link_at links k).from there (λ d is. let most = near d is in omega arith) in
      let most = before.most in
      let next = steep k before.level (λ d is. let all = near d is in omega arith) lt capacity goes before.is in
      let on = next.2 in
      subst (Kept levels rows root passed (suc steps)) e
      (record {
        level = next.0;
        is = next.1;
        most = omega arith;
        alive = λ full dead.
            let same : before.level ≡ steps = omega arith in
            let after : level_at levels (link_at links k).to ≡ Some (suc before.level) = next.1 ∙ ap (λ x. Some x) (omega arith) in
            before.alive same (dead_before k before.level lt capacity before.is after dead);
      })

  -- so each walk to a part all of whose links are passed is longer than its level
  pub risen : IsDead rows root passed end → HasRisen links now root levels end
  risen dead d steps is reached =
      elim (cases_lt d steps) as (λ _. d < steps) [
        | inl longer ↦ longer
        | inr near ↦
            let k = kept steps end reached (λ d' is'. let same = some_same (sym is' ∙ is) in omega arith) in
            let most = k.most in
            let same = some_same (sym k.is ∙ is) in
            absurd (k.alive (omega arith) dead)
      ]
