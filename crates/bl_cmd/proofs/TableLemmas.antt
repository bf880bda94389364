-- What the tables of a program tell of its positions and variables.
use Rattle.std.proofs.Common.{◌≡◌, ◌⊎◌, ◌↔◌, inl, inr, ℕ, suc, ◌+◌, ◌-◌, ◌<◌, ◌≤◌, List, [], ◌∷◌, ◌++◌, length, get_or, Option, Some, None, slice_get, true, false, Bool, IsTrue, MatchOption, refl, sym, ap, ◌∙◌, subst, arith}
use Rattle.std.specs.Prelude.{is_some, not}
use Rattle.bl_base.specs.declared.number.Var.{Var}
use Rattle.bl_program.specs.declared.command.Operand.{Operand}
use Rattle.bl_program.specs.declared.command.Operand.TheVariants as named
use Rattle.std.proofs.lemmas.Bool.{false≢true}
use Rattle.std.proofs.lemmas.Option.{none-some, slice_get-get_or}
use Rattle.bl_base.proofs.OptionLemmas.{some_with, with_some}
use Rattle.bl_program.specs.Layout.{first_of, entry_of, AreValues, Holds}
use Rattle.bl_program.specs.Rules.{Rule2, GoesTo, IsOwn, IsReadable, IsResult, IsPassed, IsGuarded}
use Rattle.bl_cmd.specs.Entrants.{Goes, Spans}
use Rattle.bl_cmd.specs.Tables.{AreTables, IsPlace, ReadsOne}
use Rattle.bl_program.specs.declared.definitions.ProgramParts.{ProgramParts as Program}
use Rattle.bl_cmd.specs.declared.tables.Entrants.{Entrants}
use Rattle.bl_cmd.specs.declared.tables.Tables.{Tables}
use Rattle.bl_cmd.specs.declared.place.Place.{Place}
use Rattle.bl_program.proofs.Layouts.{own_exists, own_apart, holds_within, no_entry, result_own, sum_up}

-- ---- what stands at a place of a list

pub reads_at : {X : Type 0} (xs ys : List X) (i : ℕ) (d : X) → ys ≡ xs → i < length xs → slice_get xs i ≡ Some (get_or ys i d)
reads_at xs ys i d e lt = subst (λ l. slice_get xs i ≡ Some (get_or l i d)) (sym e) (slice_get-get_or xs i d lt)

-- ---- variables

-- the function that a search found
pub owner_is : (program : Program) (tables : Tables) (firsts : List ℕ) (x : ℕ) (owner : Option ℕ) → AreTables program tables → firsts ≡ tables.firsts
    → MatchOption owner ((x < get_or firsts 0 0) ⊎ (get_or firsts (length firsts - 1) 0 ≤ x))
    (λ owner. (owner + 1 < length firsts) × (get_or firsts owner 0 ≤ x) × (x < get_or firsts (owner + 1) 0))
    → MatchOption owner ((any : ℕ) → IsOwn program any x → ⊥) (λ owner. (owner < length program.functions) × IsOwn program owner x)
owner_is program tables firsts x (Some owner) good same h =
    let values = subst (AreValues (first_of program) (length program.functions)) (sym same) good.firsts in
    let len = values.len in
    let lt : owner < length program.functions = omega (arith, h.0) in
    let here = values.each owner (omega arith) in
    let next = values.each (suc owner) (omega arith) in
    let next_is : owner + 1 ≡ suc owner = omega arith in
    let low = h.1 in
    let high : x < get_or firsts (suc owner) 0 = subst (λ (k : ℕ). x < get_or firsts k 0) next_is h.2 in
    (lt, (omega arith, omega arith))
owner_is program tables firsts x None good same h = λ any own.
    let values = subst (AreValues (first_of program) (length program.functions)) (sym same) good.firsts in
    let len = values.len in
    let exists = own_exists program any x own in
    let low = own.0 in
    let high = own.1 in
    elim h as (λ _. ⊥) [
      | inl under ↦
          let first = values.each 0 (omega arith) in
          let up = up_to program 0 any (omega arith) in
          omega arith
      | inr over ↦
          let last = values.each (length program.functions) (omega arith) in
          let up = up_to program (suc any) (length program.functions) (omega arith) in
          let last_is : length firsts - 1 ≡ length program.functions = omega arith in
          let above : get_or firsts (length program.functions) 0 ≤ x = subst (λ (k : ℕ). get_or firsts k 0 ≤ x) last_is over in
          omega arith
    ]
  where
    up_to : (program : Program) (i j : ℕ) → i ≤ j → first_of program i ≤ first_of program j
    up_to program i j le = let up = sum_up (λ f. f.vars) program.functions i j le in omega arith

-- a result of any function is one of the owner's
pub owner_result : (program : Program) (owner x : ℕ) (answer : Bool) → Rule2 program → IsOwn program owner x → IsTrue answer ↔ IsResult program owner x → IsTrue answer ↔ ((any : ℕ) × IsResult program any x)
owner_result program owner x answer rule own is = (
  λ t. (owner, is.0 t),
  λ any. is.1 (subst (λ f. IsResult program f x) (own_apart program any.0 owner x (result_own program any.0 x rule any.1) own) any.1),
)

pub no_result : (program : Program) (x : ℕ) → Rule2 program → ((any : ℕ) → IsOwn program any x → ⊥) → IsTrue false ↔ ((any : ℕ) × IsResult program any x)
no_result program x rule none = (λ t. absurd (cc), λ any. absurd (none any.0 (result_own program any.0 x rule any.1)))

-- ---- positions

pub place_within : (place : Place) → IsPlace place → place.position < length place.parts.now.commands
place_within place good = holds_within place.parts.now place.function place.position good.tables.facts good.holds

-- a position behind the function's entry, so many before one of its positions
back_holds : (program : Program) (function position back : ℕ) → Holds program function position → entry_of program function + back < position → Holds program function (position - back)
back_holds program function position back holds behind =
    let exists = holds.exists in let below = holds.below in
    record { exists = exists; from = omega arith; below = omega arith }

-- nobody goes there
pub passed_is : (program : Program) (tables : Tables) (function position back : ℕ) (entry : Option Entrants) → AreTables program tables → Holds program function position
    → entry_of program function + back < position → slice_get tables.entrants (position - back) ≡ Some entry → (entry ≡ None) ↔ IsPassed program (position - back)
passed_is program tables function position back entry good holds behind found = (
  λ none. record {
    entries = λ other exists. no_entry program function (position - back) other (back_holds program function position back holds behind) (omega arith);
    others = λ from command at_from goes.
        subst (Spans (λ from. Goes program.commands from (position - back))) none (good.entrants.each (position - back) entry found) from (with_some _ (λ c. GoesTo c (position - back)) command at_from goes);
  },
  λ passed. by passed entry (good.entrants.each (position - back) entry found),
)
  where
    by : IsPassed program (position - back) → (entry : Option Entrants) → Spans (λ from. Goes program.commands from (position - back)) entry → entry ≡ None
    by passed None spans = refl
    by passed (Some e) spans = let goes = some_with _ (λ c. GoesTo c (position - back)) spans.0 in absurd (passed.others e.least goes.0 goes.1 goes.2)

-- only the command before goes there
pub guarded_is : (program : Program) (tables : Tables) (function position back : ℕ) (entry : Entrants) → AreTables program tables → Holds program function position
    → entry_of program function + back < position → slice_get tables.entrants (position - back) ≡ Some (Some entry)
    → ((entry.least ≡ position - back - 1) × (entry.greatest ≡ position - back - 1)) ↔ IsGuarded program (position - back - 1) (position - back)
guarded_is program tables function position back entry good holds behind found =
    let spans = good.entrants.each (position - back) (Some entry) found in (
      λ both. record {
        entries = λ other exists. no_entry program function (position - back) other (back_holds program function position back holds behind) (omega arith);
        others = λ from command at_from goes.
            let between = spans.2 from (with_some _ (λ c. GoesTo c (position - back)) command at_from goes) in
            let low = both.0 in let high = both.1 in
            omega (arith, between.0, between.1);
      },
      λ guarded.
          let one = some_with _ (λ c. GoesTo c (position - back)) spans.0 in
          let other = some_with _ (λ c. GoesTo c (position - back)) spans.1 in
          (guarded.others entry.least one.0 one.1 one.2, guarded.others entry.greatest other.0 other.1 other.2),
    )

pub unentered_is : (program : Program) (tables : Tables) (function position back before : ℕ) → AreTables program tables → Holds program function position
    → entry_of program function + back < position → slice_get tables.entrants (position - back) ≡ Some None → IsGuarded program before (position - back)
unentered_is program tables function position back before good holds behind found = record {
  entries = λ other exists. no_entry program function (position - back) other (back_holds program function position back holds behind) (omega arith);
  others = λ from command at_from goes. absurd (good.entrants.each (position - back) None found from (with_some _ (λ c. GoesTo c (position - back)) command at_from goes));
}

-- ---- tests

-- the operand is the variable
pub reads_variable : (place : Place) (operand : Operand) (x : Var) (answer : Bool) → operand ≡ named.Var x → IsTrue answer ↔ IsReadable place.parts.now place.function x.0
    → IsTrue answer ↔ ReadsOne place operand
reads_variable place operand x answer same is =
    subst (λ o. IsTrue answer ↔ ReadsOne place o) (sym same)
    (λ t. record { each = λ y e. subst (IsReadable place.parts.now place.function) e (is.0 t) }, λ h. is.1 (h.each x.0 refl))

pub reads_constant : (place : Place) (operand : Operand) (number : ℕ) → operand ≡ named.Const number → IsTrue true ↔ ReadsOne place operand
reads_constant place operand number same =
    subst (λ o. IsTrue true ↔ ReadsOne place o) (sym same) (λ _. record { each = λ y e. absurd e }, λ _. refl)

-- there is none
pub none_test : {X : Type 0} (o : Option X) (answer : Bool) → is_some o ≡ not answer → IsTrue answer ↔ (o ≡ None)
none_test None true e = (λ _. refl, λ _. refl)
none_test None false e = absurd (cc)
none_test (Some x) true e = absurd (cc)
none_test (Some x) false e = (λ t. absurd (false≢true t), λ n. absurd (none-some x (sym n)))

-- the entries that stand in the table
pub entry_value : (program : Program) (tables : Tables) (ys : List ℕ) (function i : ℕ) → AreTables program tables → ys ≡ tables.entries → i ≡ function → function ≤ length program.functions → get_or ys i 0 ≡ entry_of program function
entry_value program tables ys function i good same index le =
    ap (λ (l : List ℕ). get_or l i 0) same ∙ ap (λ (k : ℕ). get_or tables.entries k 0) index ∙ good.entries.each function le

-- a position between a function's entry and its end
pub holds_between : (program : Program) (tables : Tables) (first next : List ℕ) (function position : ℕ) → AreTables program tables → function < length program.functions → first ≡ tables.entries → next ≡ tables.entries
    → get_or first function 0 ≤ position → position < get_or next (function + 1) 0 → Holds program function position
holds_between program tables first next function position good exists one two from below =
    let entry = entry_value program tables first function function good one refl (omega arith) in
    let end = entry_value program tables next (suc function) (function + 1) good two (omega arith) (omega arith) in
    record { exists = exists; from = omega arith; below = omega arith }
