-- The first rule that is broken.
use Rattle.std.proofs.Common.{◌≡◌, ◌⊎◌, inl, inr, ℕ, suc, ◌+◌, ◌<◌, ◌≤◌, length, Option, Some, None, MatchOption, refl, sym, ap, ◌∙◌, subst, arith}
use Rattle.std.proofs.lemmas.Bool.{cases_lt}
use Rattle.std.proofs.lemmas.Option.{same_Some}
use Rattle.bl_program.specs.Layout.{entry_of, command_at, Holds}
use Rattle.bl_program.specs.Programs.{IsProgram}
use Rattle.bl_program.specs.Rules.{Rule4, Rule5, Rule6, Rule7, Breaks, memories, functions, exports, variables, targets, ranges, accesses, growths, demands, IsFirstBroken, IsWellFormed}
use Rattle.bl_cmd.specs.Verdicts as verdict
use Rattle.bl_cmd.specs.Verdicts.{KeepsParts, BreaksParts, KeepsRules, BreaksRule, KeepsBelow, IsFault}
use Rattle.bl_program.specs.declared.command.Command.{Command}
use Rattle.bl_cmd.specs.declared.verdict.Fault.{Fault}
use Rattle.bl_program.specs.declared.definitions.ProgramParts.{ProgramParts as Program}
use Rattle.bl_program.proofs.Layouts.{holds_apart, holds_within, sum_up}

module _ (program : Program) where
  -- ---- along a function

  pub keeps_begin : (function : ℕ) → KeepsBelow program function (entry_of program function)
  keeps_begin function position command holds lt stands = let from = holds.from in absurd (omega arith)

  pub keeps_next : (function position : ℕ) (command : Command) → KeepsBelow program function position → command_at program position ≡ Some command → KeepsRules program function position command
      → KeepsBelow program function (position + 1)
  keeps_next function position command below stands keeps other found holds lt also = elim (cases_lt other position) as (λ _. KeepsRules program function other found) [
    | inl less ↦ below other found holds less also
    | inr more ↦
        let same : other ≡ position = omega arith in
        let is : command ≡ found = same_Some command found (sym stands ∙ ap (command_at program) (sym same) ∙ also) in
        subst (λ (k : ℕ). KeepsRules program function k found) (sym same) (subst (KeepsRules program function position) is keeps)
  ]

  pub keeps_end : (function high any : ℕ) → entry_of program (suc function) ≤ high → KeepsBelow program function high → KeepsBelow program function any
  keeps_end function high any le below position command holds lt stands = let within = holds.below in below position command holds (omega arith) stands

  -- ---- all rules kept

  pub all_kept : IsProgram program → KeepsParts program → ((function : ℕ) → function < length program.functions → KeepsBelow program function (length program.commands)) → IsWellFormed program
  all_kept facts parts keeps = record {
    rule1 = parts.rule1;
    rule2 = parts.rule2;
    rule3 = parts.rule3;
    rule4 = λ position function command holds stands. (at position function command holds stands).rule4;
    rule5 = λ position function command holds stands. (at position function command holds stands).rule5;
    rule6 = λ position function command holds stands. (at position function command holds stands).rule6;
    rule7 = λ position function command holds stands. (at position function command holds stands).rule7;
    rule8 = λ position function command holds stands. (at position function command holds stands).rule8;
    rule9 = parts.rule9;
  }
    where
      at : (position function : ℕ) (command : Command) → Holds program function position → command_at program position ≡ Some command → KeepsRules program function position command
      at position function command holds stands = keeps function holds.exists position command holds (holds_within program function position facts holds) stands

  -- ---- a rule on the whole program

  no_position : (function : ℕ) → Holds program function 0 → ⊥
  no_position function holds = let from = holds.from in omega arith

  -- the rule's number is at most that of another one that is broken at position 0
  first_of_parts : (rule other : ℕ) → BreaksParts program rule → Breaks other 0 program → rule ≤ other
  first_of_parts rule other (verdict.memories e bad) (memories f g not) = omega arith
  first_of_parts rule other (verdict.memories e bad) (functions f g not) = omega arith
  first_of_parts rule other (verdict.memories e bad) (exports f g not) = omega arith
  first_of_parts rule other (verdict.memories e bad) (demands f g not) = omega arith
  first_of_parts rule other (verdict.functions e one bad) (memories f g not) = absurd (not one)
  first_of_parts rule other (verdict.functions e one bad) (functions f g not) = omega arith
  first_of_parts rule other (verdict.functions e one bad) (exports f g not) = omega arith
  first_of_parts rule other (verdict.functions e one bad) (demands f g not) = omega arith
  first_of_parts rule other (verdict.exports e one two bad) (memories f g not) = absurd (not one)
  first_of_parts rule other (verdict.exports e one two bad) (functions f g not) = absurd (not two)
  first_of_parts rule other (verdict.exports e one two bad) (exports f g not) = omega arith
  first_of_parts rule other (verdict.exports e one two bad) (demands f g not) = omega arith
  first_of_parts rule other (verdict.demands e one two three bad) (memories f g not) = absurd (not one)
  first_of_parts rule other (verdict.demands e one two three bad) (functions f g not) = absurd (not two)
  first_of_parts rule other (verdict.demands e one two three bad) (exports f g not) = absurd (not three)
  first_of_parts rule other (verdict.demands e one two three bad) (demands f g not) = omega arith
  first_of_parts rule other _ (variables f not) = absurd (not (λ function command holds stands. absurd (no_position function holds)))
  first_of_parts rule other _ (targets f not) = absurd (not (λ function command holds stands. absurd (no_position function holds)))
  first_of_parts rule other _ (ranges f not) = absurd (not (λ function command holds stands. absurd (no_position function holds)))
  first_of_parts rule other _ (accesses f not) = absurd (not (λ function command holds stands. absurd (no_position function holds)))
  first_of_parts rule other _ (growths f not) = absurd (not (λ function command holds stands. absurd (no_position function holds)))

  broken_of : (rule : ℕ) → BreaksParts program rule → Breaks rule 0 program
  broken_of rule (verdict.memories e bad) = memories e refl bad
  broken_of rule (verdict.functions e one bad) = functions e refl bad
  broken_of rule (verdict.exports e one two bad) = exports e refl bad
  broken_of rule (verdict.demands e one two three bad) = demands e refl bad

  pub part_broken : (rule : ℕ) → BreaksParts program rule → IsFirstBroken rule 0 program
  part_broken rule breaks = record {
    broken = broken_of rule breaks;
    least_position = λ other from h. omega arith;
    least_rule = λ other h. first_of_parts rule other breaks h;
  }

  -- ---- a rule on a command

  module _ (facts : IsProgram program) (parts : KeepsParts program) (rule position : ℕ) (fault : IsFault program rule position) where
    abbrev Here : ℕ
    Here = fault.function

    -- before it all commands keep the rules
    kept_before : (from function : ℕ) (command : Command) → from < position → Holds program function from → command_at program from ≡ Some command → KeepsRules program function from command
    kept_before from function command lt holds stands = elim (cases_lt function Here) as (λ _. KeepsRules program function from command) [
      | inl less ↦ fault.before function less from command holds (holds_within program function from facts holds) stands
      | inr more ↦ elim (cases_lt Here function) as (λ _. KeepsRules program function from command) [
        | inl less ↦
            let up = sum_up (λ f. f.length) program.functions (suc Here) function (omega arith) in
            let high = fault.fault.holds.below in
            let low = holds.from in
            absurd (omega arith)
        | inr also ↦
            let same : Here ≡ function = omega arith in
            subst (λ (f : ℕ). KeepsRules program f from command) same (fault.fault.before from command (subst (λ (f : ℕ). Holds program f from) (sym same) holds) lt stands)
      ]
    ]

    -- the command and the function at its position are those
    at_here : (Keeps : ℕ → Command → Type 0) → Keeps Here fault.fault.command → (function : ℕ) (command : Command) → Holds program function position → command_at program position ≡ Some command → Keeps function command
    at_here Keeps keeps function command holds stands =
        let same = holds_apart program Here function position fault.fault.holds holds in
        let is = same_Some fault.fault.command command (sym fault.fault.stands ∙ stands) in
        subst (λ (f : ℕ). Keeps f command) same (subst (Keeps Here) is keeps)

    abbrev Rules : Type 0
    Rules = BreaksRule program Here position fault.fault.command rule

    fourth : Rules → (rule ≤ 4) ⊎ Rule4 program Here fault.fault.command
    fourth (verdict.variables e bad) = inl (omega arith)
    fourth (verdict.targets e a bad) = inr a
    fourth (verdict.ranges e a b bad) = inr a
    fourth (verdict.accesses e a b c bad) = inr a
    fourth (verdict.growths e a b c d bad) = inr a

    fifth : Rules → (rule ≤ 5) ⊎ Rule5 program Here position fault.fault.command
    fifth (verdict.variables e bad) = inl (omega arith)
    fifth (verdict.targets e a bad) = inl (omega arith)
    fifth (verdict.ranges e a b bad) = inr b
    fifth (verdict.accesses e a b c bad) = inr b
    fifth (verdict.growths e a b c d bad) = inr b

    sixth : Rules → (rule ≤ 6) ⊎ Rule6 program Here fault.fault.command
    sixth (verdict.variables e bad) = inl (omega arith)
    sixth (verdict.targets e a bad) = inl (omega arith)
    sixth (verdict.ranges e a b bad) = inl (omega arith)
    sixth (verdict.accesses e a b c bad) = inr c
    sixth (verdict.growths e a b c d bad) = inr c

    seventh : Rules → (rule ≤ 7) ⊎ Rule7 program Here position fault.fault.command
    seventh (verdict.variables e bad) = inl (omega arith)
    seventh (verdict.targets e a bad) = inl (omega arith)
    seventh (verdict.ranges e a b bad) = inl (omega arith)
    seventh (verdict.accesses e a b c bad) = inl (omega arith)
    seventh (verdict.growths e a b c d bad) = inr d

    eighth : Rules → rule ≤ 8
    eighth (verdict.variables e bad) = omega arith
    eighth (verdict.targets e a bad) = omega arith
    eighth (verdict.ranges e a b bad) = omega arith
    eighth (verdict.accesses e a b c bad) = omega arith
    eighth (verdict.growths e a b c d bad) = omega arith

    least_here : (other : ℕ) → Breaks other position program → rule ≤ other
    least_here other (memories f g not) = absurd (not parts.rule1)
    least_here other (functions f g not) = absurd (not parts.rule2)
    least_here other (exports f g not) = absurd (not parts.rule3)
    least_here other (variables f not) = elim (fourth fault.fault.broken) as (λ _. rule ≤ other) [ inl le ↦ omega arith | inr keeps ↦ absurd (not (at_here (Rule4 program) keeps)) ]
    least_here other (targets f not) = elim (fifth fault.fault.broken) as (λ _. rule ≤ other) [ inl le ↦ omega arith | inr keeps ↦ absurd (not (at_here (λ g. Rule5 program g position) keeps)) ]
    least_here other (ranges f not) = elim (sixth fault.fault.broken) as (λ _. rule ≤ other) [ inl le ↦ omega arith | inr keeps ↦ absurd (not (at_here (Rule6 program) keeps)) ]
    least_here other (accesses f not) = elim (seventh fault.fault.broken) as (λ _. rule ≤ other) [ inl le ↦ omega arith | inr keeps ↦ absurd (not (at_here (λ g. Rule7 program g position) keeps)) ]
    least_here other (growths f not) = let le = eighth fault.fault.broken in omega arith
    least_here other (demands f g not) = absurd (not parts.rule9)

    -- what is broken elsewhere isn't before it
    least_there : (other from : ℕ) → Breaks other from program → from < position → ⊥
    least_there other from (memories f g not) lt = not parts.rule1
    least_there other from (functions f g not) lt = not parts.rule2
    least_there other from (exports f g not) lt = not parts.rule3
    least_there other from (variables f not) lt = not (λ function command holds stands. (kept_before from function command lt holds stands).rule4)
    least_there other from (targets f not) lt = not (λ function command holds stands. (kept_before from function command lt holds stands).rule5)
    least_there other from (ranges f not) lt = not (λ function command holds stands. (kept_before from function command lt holds stands).rule6)
    least_there other from (accesses f not) lt = not (λ function command holds stands. (kept_before from function command lt holds stands).rule7)
    least_there other from (growths f not) lt = not (λ function command holds stands. (kept_before from function command lt holds stands).rule8)
    least_there other from (demands f g not) lt = not parts.rule9

    broken_here : Rules → Breaks rule position program
    broken_here (verdict.variables e bad) = variables e (λ keeps. bad (keeps Here fault.fault.command fault.fault.holds fault.fault.stands))
    broken_here (verdict.targets e a bad) = targets e (λ keeps. bad (keeps Here fault.fault.command fault.fault.holds fault.fault.stands))
    broken_here (verdict.ranges e a b bad) = ranges e (λ keeps. bad (keeps Here fault.fault.command fault.fault.holds fault.fault.stands))
    broken_here (verdict.accesses e a b c bad) = accesses e (λ keeps. bad (keeps Here fault.fault.command fault.fault.holds fault.fault.stands))
    broken_here (verdict.growths e a b c d bad) = growths e (λ keeps. bad (keeps Here fault.fault.command fault.fault.holds fault.fault.stands))

    pub command_broken : IsFirstBroken rule position program
    command_broken = record {
      broken = broken_here fault.fault.broken;
      least_position = λ other from breaks. elim (cases_lt from position) as (λ _. position ≤ from) [ inl less ↦ absurd (least_there other from breaks less) | inr more ↦ more ];
      least_rule = least_here;
    }

  -- what the check found
  pub verdict_is : IsProgram program → KeepsParts program → (found : Option Fault)
      → MatchOption found ((function : ℕ) → function < length program.functions → KeepsBelow program function (length program.commands)) (λ fault. IsFault program fault.rule fault.position.0)
      → verdict.IsVerdict program found
  verdict_is facts parts None none = all_kept facts parts none
  verdict_is facts parts (Some fault) is = command_broken facts parts fault.rule fault.position.0 is

-- an answer by its case
pub match_some : (K : Type 0) (B : ℕ → Type 0) (found : Option ℕ) (rule : ℕ) → MatchOption found K B → found ≡ Some rule → B rule
match_some K B found rule h e = subst (λ o. MatchOption o K B) e h

pub match_none : (K : Type 0) (B : ℕ → Type 0) (found : Option ℕ) → MatchOption found K B → found ≡ None → K
match_none K B found h e = subst (λ o. MatchOption o K B) e h

pub fault_of : (program parts : Program) (found : Option Fault) (fault : Fault) → parts ≡ program → verdict.IsVerdict parts found → found ≡ Some fault → IsFirstBroken fault.rule fault.position.0 program
fault_of program parts found fault same is e =
    subst (λ (p : Program). IsFirstBroken fault.rule fault.position.0 p) same (subst (verdict.IsVerdict parts) e is)
