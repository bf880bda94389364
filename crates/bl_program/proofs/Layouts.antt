-- Where functions, their variables and their commands stand.
use Rattle.std.proofs.Common.{◌≡◌, ◌≢◌, inl, inr, ℕ, zero, suc, ◌+◌, ◌-◌, ◌<◌, ◌≤◌, List, [], ◌∷◌, length, Some, slice_get, true, false, Bool, refl, ap, subst, arith}
use Rattle.std.specs.Prelude.{nat_lt, if◌then◌else◌, option_map, unwrap_or}
use Rattle.std.proofs.lemmas.Bool.{cases_lt, ltb-true, ltb-false}
use Rattle.std.proofs.lemmas.Option.{none-some, same_Some}
use Rattle.bl_base.proofs.Lists.{all_get, within_get}
use Rattle.bl_program.specs.Layout.{sum_before, number_at, holding, statics, first_of, params_of, results_of, entry_of, running, Holds}
use Rattle.bl_program.specs.Programs.{IsProgram}
use Rattle.bl_program.specs.Rules.{Rule2, IsFunction, IsOwn, IsResult}
use Rattle.bl_program.specs.declared.definitions.FunctionDef.{FunctionDef}
use Rattle.bl_program.specs.declared.definitions.ProgramParts.{ProgramParts as Program}

module _ {X : Type 0} (f : X → ℕ) where
  -- one item more
  pub sum_more : (xs : List X) (i : ℕ) (x : X) → slice_get xs i ≡ Some x → sum_before f xs (suc i) ≡ sum_before f xs i + f x
  sum_more [] i x e = absurd (none-some x e)
  sum_more (y ∷ xs) zero x e = let same : f y ≡ f x = ap f (same_Some y x e) in let none : sum_before f xs 0 ≡ 0 = refl in omega arith
  sum_more (y ∷ xs) (suc i) x e = let more = sum_more xs i x e in omega arith

  -- the item that makes a difference
  pub sum_item : (xs : List X) (i : ℕ) → sum_before f xs i < sum_before f xs (suc i) → i < length xs
  sum_item [] zero h = absurd (omega arith)
  sum_item [] (suc i) h = absurd (omega arith)
  sum_item (y ∷ xs) zero h = omega arith
  sum_item (y ∷ xs) (suc i) h = let rest = sum_item xs i (omega arith) in omega arith

  pub sum_step : (xs : List X) (i : ℕ) → sum_before f xs i ≤ sum_before f xs (suc i)
  sum_step [] zero = omega arith
  sum_step [] (suc i) = omega arith
  sum_step (y ∷ xs) zero = omega arith
  sum_step (y ∷ xs) (suc i) = let rest = sum_step xs i in omega arith

  -- sums rise
  pub sum_rises : (xs : List X) (d i : ℕ) → sum_before f xs i ≤ sum_before f xs (d + i)
  sum_rises xs zero i = let same : 0 + i ≡ i = omega arith in rw same (omega arith)
  sum_rises xs (suc d) i =
      let rest = sum_rises xs d i in
      let step = sum_step xs (d + i) in
      let same : suc d + i ≡ suc (d + i) = omega arith in
      rw same (omega arith)

  pub sum_up : (xs : List X) (i j : ℕ) → i ≤ j → sum_before f xs i ≤ sum_before f xs j
  sum_up xs i j le =
      let same : (j - i) + i ≡ j = omega arith in
      subst (λ k. sum_before f xs i ≤ sum_before f xs k) same (sum_rises xs (j - i) i)

  -- a place in one range is in no other one
  pub sum_apart : (xs : List X) (start i j x : ℕ) → start + sum_before f xs i ≤ x → x < start + sum_before f xs (suc i) → start + sum_before f xs j ≤ x → x < start + sum_before f xs (suc j) → i ≡ j
  sum_apart xs start i j x from below other_from other_below =
      elim (cases_lt i j) as (λ _. i ≡ j) [
        | inl less ↦ let up = sum_up xs (suc i) j (omega arith) in absurd (omega arith)
        | inr more ↦ elim (cases_lt j i) as (λ _. i ≡ j) [
          | inl less ↦ let up = sum_up xs (suc j) i (omega arith) in absurd (omega arith)
          | inr also ↦ omega arith
        ]
      ]

  -- the item that holds a place holds it
  pub holding_is : (xs : List X) (i x : ℕ) → sum_before f xs i ≤ x → x < sum_before f xs (suc i) → holding f xs x ≡ i
  holding_is [] zero x from below = absurd (omega arith)
  holding_is [] (suc i) x from below = absurd (omega arith)
  holding_is (y ∷ xs) zero x from below = by (nat_lt x (f y)) refl
    where
      by : (b : Bool) → nat_lt x (f y) ≡ b → (if b then 0 else suc (holding f xs (x - f y))) ≡ 0
      by true e = refl
      by false e = let none : sum_before f xs 0 ≡ 0 = refl in let above = ltb-false x (f y) e in absurd (omega arith)
  holding_is (y ∷ xs) (suc i) x from below = by (nat_lt x (f y)) refl (λ above. holding_is xs i (x - f y) (omega arith) (omega arith))
    where
      by : (b : Bool) → nat_lt x (f y) ≡ b → (f y ≤ x → holding f xs (x - f y) ≡ i) → (if b then 0 else suc (holding f xs (x - f y))) ≡ suc i
      by true e rest = let above = ltb-true x (f y) e in absurd (omega arith)
      by false e rest = ap suc (rest (ltb-false x (f y) e))

  -- each place is held
  pub holds_some : (xs : List X) (x : ℕ) → x < sum_before f xs (length xs) → (i : ℕ) × (i < length xs) × (sum_before f xs i ≤ x) × (x < sum_before f xs (suc i))
  holds_some [] x below = absurd (omega arith)
  holds_some (y ∷ xs) x below =
      elim (cases_lt x (f y)) as (λ _. (i : ℕ) × (i < length (y ∷ xs)) × (sum_before f (y ∷ xs) i ≤ x) × (x < sum_before f (y ∷ xs) (suc i))) [
        | inl less ↦ (0, omega arith, omega arith, let none : sum_before f xs 0 ≡ 0 = refl in omega arith)
        | inr more ↦ let rest = holds_some xs (x - f y) (omega arith) in (suc rest.0, omega (arith, rest.1), omega (arith, rest.2), omega (arith, rest.3))
      ]

  -- a sum of numbers below a bound
  pub number_is : (xs : List X) (i : ℕ) (x : X) → slice_get xs i ≡ Some x → number_at f xs i ≡ f x
  number_is xs i x e = ap (λ o. unwrap_or (option_map f o) 0) e

module _ (program : Program) where
  -- a variable belongs to one function
  pub own_exists : (function x : ℕ) → IsOwn program function x → function < length program.functions
  own_exists function x own = sum_item (λ (f : FunctionDef). f.vars) program.functions function (let low = own.0 in let high = own.1 in omega arith)

  pub own_apart : (one other x : ℕ) → IsOwn program one x → IsOwn program other x → one ≡ other
  own_apart one other x a b = sum_apart (λ (f : FunctionDef). f.vars) program.functions (statics program) one other x a.0 a.1 b.0 b.1

  -- a position belongs to one function
  pub holds_apart : (one other x : ℕ) → Holds program one x → Holds program other x → one ≡ other
  holds_apart one other x a b = sum_apart (λ (f : FunctionDef). f.length) program.functions 7 one other x a.from a.below b.from b.below

  pub running_is : (function position : ℕ) → Holds program function position → running program position ≡ function
  running_is function position holds =
      let from = holds.from in let below = holds.below in
      holding_is (λ (f : FunctionDef). f.length) program.functions function (position - 7) (omega arith) (omega arith)

  -- a position of a function has a command
  pub holds_within : (function position : ℕ) → IsProgram program → Holds program function position → position < length program.commands
  holds_within function position facts holds =
      let up = sum_up (λ (f : FunctionDef). f.length) program.functions (suc function) (length program.functions) (let e = holds.exists in omega arith) in
      let all = facts.lengths in let below = holds.below in
      omega arith

  -- a command behind the traps belongs to a function
  pub held_by : (position : ℕ) → IsProgram program → 7 ≤ position → position < length program.commands → (function : ℕ) × Holds program function position
  held_by position facts from below =
      let all = facts.lengths in
      let some = holds_some (λ (f : FunctionDef). f.length) program.functions (position - 7) (omega arith) in
      (some.0, record { exists = some.1; from = omega (arith, some.2); below = omega (arith, some.3) })

  -- behind a function's entry no function begins
  pub no_entry : (function position other : ℕ) → Holds program function position → entry_of program function < position → entry_of program other ≢ position
  no_entry function position other holds behind same =
      let below = holds.below in
      elim (cases_lt function other) as (λ _. ⊥) [
        | inl less ↦ let up = sum_up (λ (f : FunctionDef). f.length) program.functions (suc function) other (omega arith) in omega arith
        | inr more ↦ let up = sum_up (λ (f : FunctionDef). f.length) program.functions other function (omega arith) in omega arith
      ]

  -- the variables of a function that exists
  pub next_first : (function : ℕ) (defined : FunctionDef) → slice_get program.functions function ≡ Some defined → first_of program (suc function) ≡ first_of program function + defined.vars
  next_first function defined e = let more = sum_more (λ (f : FunctionDef). f.vars) program.functions function defined e in omega arith

  pub next_entry : (function : ℕ) (defined : FunctionDef) → slice_get program.functions function ≡ Some defined → entry_of program (suc function) ≡ entry_of program function + defined.length
  next_entry function defined e = let more = sum_more (λ (f : FunctionDef). f.length) program.functions function defined e in omega arith

  pub first_below : (function : ℕ) → function ≤ length program.functions → first_of program function ≤ first_of program (length program.functions)
  first_below function le = let up = sum_up (λ (f : FunctionDef). f.vars) program.functions function (length program.functions) le in omega arith

  pub entry_below : (function : ℕ) → function ≤ length program.functions → entry_of program function ≤ entry_of program (length program.functions)
  entry_below function le = let up = sum_up (λ (f : FunctionDef). f.length) program.functions function (length program.functions) le in omega arith

  pub first_above : (function : ℕ) → statics program ≤ first_of program function
  first_above function = omega arith

  -- results are a function's own variables
  pub result_own : (function x : ℕ) → Rule2 program → IsResult program function x → IsOwn program function x
  result_own function x rule r =
      elim (cases_lt function (length program.functions)) as (λ _. IsOwn program function x) [
        | inl less ↦
            let got = within_get program.functions function less in
            let params : params_of program function ≡ length got.0.params = number_is (λ (f : FunctionDef). length f.params) program.functions function got.0 got.1 in
            let results : results_of program function ≡ length got.0.results = number_is (λ (f : FunctionDef). length f.results) program.functions function got.0 got.1 in
            let next = next_first function got.0 got.1 in
            let room = (all_get IsFunction program.functions function got.0 rule.each got.1).variables in
            let low = r.0 in let high = r.1 in
            (omega arith, omega arith)
        | inr more ↦ absurd (let none = past program.functions function more in let low = r.0 in let high = r.1 in omega arith)
      ]
    where
      past : (fs : List FunctionDef) (i : ℕ) → length fs ≤ i → number_at (λ f. length f.results) fs i ≡ 0
      past [] i le = refl
      past (f ∷ fs) zero le = absurd (omega arith)
      past (f ∷ fs) (suc i) le = past fs i (omega arith)
