-- Where control comes from in a function, and which facts hold everywhere behind its first commands.
use Rattle.std.proofs.Common.{◌≡◌, ◌≢◌, ◌⊎◌, inl, inr, ℕ, suc, ◌+◌, ◌<◌, ◌≤◌, length, Some, refl, sym, ap, ◌∙◌, subst, arith}
use Rattle.std.proofs.lemmas.Bool.{cases_lt}
use Rattle.std.proofs.lemmas.Option.{same_Some, slice_get_within}
use Rattle.bl_base.proofs.Lists.{all_get, within_get}
use Rattle.bl_program.specs.Layout.{entry_of, command_at, Holds}
use Rattle.bl_program.specs.Programs.{IsProgram}
use Rattle.bl_program.specs.Rules.{IsWellFormed, IsFunction, GoesTo, Leaves}
use Rattle.bl_program.specs.declared.command.Command.{Command}
use Rattle.bl_program.specs.declared.command.Command.TheVariants as command
use Rattle.bl_program.specs.declared.definitions.ProgramParts.{ProgramParts as Program}
use Rattle.bl_program.proofs.Layouts.{held_by, holds_apart, next_entry}
use Rattle.bl_definite.specs.Facts.{Follows, IsKnownAtEntry, Lacks, begins, lost, goes_on, Loses, IsLostBy, Makes}
use Rattle.bl_definite.specs.Search.{IsParameter, IsStraight}
use Rattle.bl_definite.specs.declared.facts.Fact.{Fact}
use Rattle.bl_definite.specs.declared.facts.Fact.TheVariants.{Own}

-- what a command makes it doesn't lose
pub makes_keeps : (here : Command) (fact : Fact) → Makes here fact → Loses here fact → ⊥
makes_keeps (command.Call function) fact makes loses = subst (IsLostBy function) makes loses refl
makes_keeps _ fact makes loses = loses

-- that a variable was written isn't lost
pub own_stays : (here : Command) (x : ℕ) → Loses here (Own x) → ⊥
own_stays (command.Call function) x loses = loses
own_stays _ x loses = loses

-- a command that names a position leaves
pub goes_leaves : (here : Command) (position : ℕ) → GoesTo here position → Leaves here
goes_leaves (command.Test cond one other) position goes = tt
goes_leaves (command.Jump to) position goes = tt
goes_leaves _ position goes = absurd goes

module _ (program : Program) (facts : IsProgram program) (rules : IsWellFormed program) where
  -- a function's entry is one of its positions
  pub entry_held : (function : ℕ) → function < length program.functions → Holds program function (entry_of program function)
  entry_held function exists =
      let got = within_get program.functions function exists in
      let next = next_entry program function got.0 got.1 in
      let some = (all_get IsFunction program.functions function got.0 rules.rule2.each got.1).command in
      record { exists = exists; from = omega arith; below = omega arith }

  -- a trap goes nowhere
  trap_ends : (here : Command) (from position : ℕ) → from < 7 → command_at program from ≡ Some here → Follows here from position → ⊥
  trap_ends here from position low stands follows =
      let trap = facts.traps from low in
      let is : here ≡ command.Trap trap.0 = same_Some here (command.Trap trap.0) (sym stands ∙ trap.2) in
      elim (subst (λ c. Follows c from position) is follows) as (λ _. ⊥) [ inl goes ↦ goes | inr next ↦ next.1 tt ]

  -- control comes to a position of a function from a position of the function
  pub comes_within : (function from position : ℕ) (here : Command) → Holds program function position → command_at program from ≡ Some here → Follows here from position → Holds program function from
  comes_within function from position here holds stands follows =
      elim (cases_lt from 7) as (λ _. Holds program function from) [
        | inl low ↦ absurd (trap_ends here from position low stands follows)
        | inr high ↦
            let held = held_by program from facts high (slice_get_within program.commands from here stands) in
            let rule = rules.rule5 from held.0 here held.1 stands in
            let there : Holds program held.0 position = elim follows as (λ _. Holds program held.0 position) [
              | inl goes ↦ elim (rule.targets position goes) as (λ _. Holds program held.0 position) [
                | inl low ↦ absurd (let low_from = holds.from in omega arith)
                | inr same ↦ same
              ]
              | inr next ↦
                  let held_from = held.1.from in let held_below = held.1.below in
                  elim (cases_lt position (entry_of program (suc held.0))) as (λ _. Holds program held.0 position) [
                    | inl less ↦ record { exists = held.1.exists; from = omega (arith, next.0); below = less }
                    | inr more ↦ absurd (next.1 (rule.last (omega (arith, next.0))))
                  ]
            ] in
            subst (λ (f : ℕ). Holds program f from) (holds_apart program held.0 function position there holds) held.1
      ]

  -- a position of a function that is an entry is the function's
  pub entry_is : (function other position : ℕ) → Holds program function position → other < length program.functions → position ≡ entry_of program other → other ≡ function
  entry_is function other position holds exists same =
      holds_apart program other function position (subst (Holds program other) (sym same) (entry_held other exists)) holds

  -- a parameter is lacking nowhere
  pub parameter_known : (function x position : ℕ) → IsParameter program function x → Lacks program (Own x) position → Holds program function position → ⊥
  parameter_known function x _ is (begins other position exists same unknown) holds =
      unknown (subst (λ (f : ℕ). IsKnownAtEntry program f (Own x)) (sym (entry_is function other position holds exists same)) is)
  parameter_known function x _ is (lost from position here stands follows loses) holds = own_stays here x loses
  parameter_known function x _ is (goes_on from position here stands follows makes lacks) holds =
      parameter_known function x from is lacks (comes_within function from position here holds stands follows)

  -- ---- variables that are written before the first branch

  -- a variable that a command makes, before which and at which no command branches, is lacking only up to it
  pub early_known : (function x last position : ℕ) (maker : Command) → Holds program function last → command_at program last ≡ Some maker → Makes maker (Own x) → IsStraight program function (suc last)
      → Lacks program (Own x) position → Holds program function position → position < suc last
  early_known function x last _ maker at stands makes straight (begins other position exists same unknown) holds =
      let is = entry_is function other position holds exists same in
      let entry : position ≡ entry_of program function = subst (λ (f : ℕ). position ≡ entry_of program f) is same in
      let low = at.from in
      omega arith
  early_known function x last _ maker at stands makes straight (lost from position here found follows loses) holds = absurd (own_stays here x loses)
  early_known function x last _ maker at stands makes straight (goes_on from position here found follows unmade lacks) holds =
      let held = comes_within function from position here holds found follows in
      let up = early_known function x last from maker at stands makes straight lacks held in
      let goes = straight from here held.from up found in
      elim follows as (λ _. position < suc last) [
        | inl named ↦ absurd (goes (goes_leaves here position named))
        | inr next ↦ elim (cases_lt from last) as (λ _. position < suc last) [
          | inl less ↦ omega (arith, next.0)
          | inr more ↦
              let same : last ≡ from = omega arith in
              let is : maker ≡ here = same_Some maker here (sym stands ∙ ap (command_at program) same ∙ found) in
              absurd (unmade (subst (λ c. Makes c (Own x)) is makes))
        ]
      ]
