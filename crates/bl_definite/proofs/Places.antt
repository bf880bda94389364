-- What the tables tell of a function's variables.
use Rattle.std.proofs.Common.{◌≡◌, ◌⊎◌, inl, inr, ℕ, zero, suc, ◌+◌, ◌-◌, ◌<◌, ◌≤◌, List, [], ◌∷◌, length, get_or, Option, Some, None, slice_get, MatchOption, refl, sym, subst, arith}
use Rattle.bl_program.specs.Layout.{number_at, first_of, AreValues}
use Rattle.bl_program.specs.Rules.{IsOwn}
use Rattle.bl_program.specs.declared.definitions.ProgramParts.{ProgramParts as Program}
use Rattle.std.proofs.lemmas.Option.{none-some}
use Rattle.bl_program.proofs.Layouts.{own_exists, sum_up}
use Rattle.bl_definite.specs.Tables.{AreTables}
use Rattle.bl_definite.specs.declared.tables.Tables.{Tables}

-- the function that a search found
pub owner_is : (program : Program) (tables : Tables) (firsts : List ℕ) (x : ℕ) (owner : Option ℕ) → AreTables program tables → firsts ≡ tables.firsts
    → MatchOption owner ((x < get_or firsts 0 0) ⊎ (get_or firsts (length firsts - 1) 0 ≤ x))
    (λ owner. (owner + 1 < length firsts) × (get_or firsts owner 0 ≤ x) × (x < get_or firsts (owner + 1) 0))
    → MatchOption owner ((any : ℕ) → IsOwn program any x → ⊥) (λ owner. (owner < length program.functions) × IsOwn program owner x)
owner_is program tables firsts x (Some owner) good same h =
    let values = subst (AreValues (first_of program) (length program.functions)) (sym same) good.firsts in
    let len = values.len in
    let lt : owner < length program.functions = omega (arith, h.0) in
    let here = values.each owner (omega arith) in
    let next = values.each (suc owner) (omega arith) in
    let next_is : owner + 1 ≡ suc owner = omega arith in
    let low = h.1 in
    let high : x < get_or firsts (suc owner) 0 = subst (λ (k : ℕ). x < get_or firsts k 0) next_is h.2 in
    (lt, (omega arith, omega arith))
owner_is program tables firsts x None good same h = λ any own.
    let values = subst (AreValues (first_of program) (length program.functions)) (sym same) good.firsts in
    let len = values.len in
    let exists = own_exists program any x own in
    let low = own.0 in
    let high = own.1 in
    elim h as (λ _. ⊥) [
      | inl under ↦
          let first = values.each 0 (omega arith) in
          let up = up_to program 0 any (omega arith) in
          omega arith
      | inr over ↦
          let last = values.each (length program.functions) (omega arith) in
          let up = up_to program (suc any) (length program.functions) (omega arith) in
          let last_is : length firsts - 1 ≡ length program.functions = omega arith in
          let above : get_or firsts (length program.functions) 0 ≤ x = subst (λ (k : ℕ). get_or firsts k 0 ≤ x) last_is over in
          omega arith
    ]
  where
    up_to : (program : Program) (i j : ℕ) → i ≤ j → first_of program i ≤ first_of program j
    up_to program i j le = let up = sum_up (λ f. f.vars) program.functions i j le in omega arith

-- there is no item
pub number_none : {X : Type 0} (f : X → ℕ) (xs : List X) (i : ℕ) → slice_get xs i ≡ None → 0 ≡ number_at f xs i
number_none f [] i e = refl
number_none f (x ∷ xs) zero e = absurd (none-some x (sym e))
number_none f (x ∷ xs) (suc i) e = number_none f xs i e
