-- What a pass over commands keeps.
use Rattle.std.proofs.Common.{◌≡◌, ℕ, suc, ◌+◌, ◌^◌, ◌<◌, ◌≤◌, List, [], ◌∷◌, ◌++◌, length, get_or, Option, Some, slice_get, refl, sym, ap, subst, ◌∙◌, arith, inl, inr}
use Rattle.std.specs.Prelude.{◌↔◌, IsSomeAnd, option_map}
use Rattle.std.proofs.lemmas.Option.{none-some, slice_get-get_or, slice_get_within, same_Some}
use Rattle.bl_base.proofs.Lists.{all_get}
use Rattle.bl_base.specs.declared.number.Pos.{Pos}
use Rattle.bl_base.specs.declared.number.Var.{Var}
use Rattle.bl_base.proofs.OptionLemmas.{some_with}
use Rattle.bl_program.specs.Layout.{first_of, entry_of, params_of, result, command_at, Holds}
use Rattle.bl_program.specs.Programs.{IsProgram}
use Rattle.bl_program.specs.Rules.{IsWellFormed, IsFunction}
use Rattle.bl_program.specs.Sites.{Among, Loads, written_by, Writes, moved_by, sunk_by}
use Rattle.bl_program.specs.declared.command.Command.{Command}
use Rattle.bl_program.specs.declared.command.Operand.{Operand}
use Rattle.bl_program.specs.declared.definitions.FunctionDef.{FunctionDef}
use Rattle.bl_program.specs.declared.definitions.ProgramParts.{ProgramParts as Program}
use Rattle.bl_program.proofs.Layouts.{number_is, next_first, next_entry, first_below, entry_below, sum_step}
use Rattle.bl_graph.specs.Graphs.{use_of, AreUses, IsGraph}
use Rattle.bl_graph.specs.UseLists.{AreBelow, ArePlacesBelow, AddsPlace, AddsRow, OperandAt, LoadAt}
use Rattle.bl_graph.specs.declared.facts.Use.{Use}
use Rattle.bl_graph.proofs.UseRows.{place_yes, place_no, row_one, nothing_below, all_below}

-- ---- operands

pub row_at : (operands : Command → List Operand) (commands : List Command) (at : ℕ) (d : Command) → at < length commands
    → (x : ℕ) → Among (operands (get_or commands at d)) x ↔ OperandAt operands commands at x
row_at operands commands at d lt x =
    subst (λ o. Among (operands (get_or commands at d)) x ↔ IsSomeAnd o (λ command. Among (operands command) x)) (sym (slice_get-get_or commands at d lt)) ((λ h. h), (λ h. h))

pub operand_low : (operands : Command → List Operand) (commands : List Command) (bound : ℕ) → length commands ≤ bound → (position x : ℕ) → OperandAt operands commands position x → position < bound
operand_low operands commands bound le position x h =
    let found = some_with (slice_get commands position) (λ command. Among (operands command) x) h in
    let lt = slice_get_within commands position found.0 found.1 in
    omega arith

-- ---- loads

pub load_step : (commands : List Command) (at : ℕ) (d : Command) (old new : List Pos) → at < length commands → AddsPlace (Loads (get_or commands at d)) at old new
    → ArePlacesBelow (LoadAt commands) at old → ArePlacesBelow (LoadAt commands) (at + 1) new
load_step commands at d old new lt adds below =
    let stands = slice_get-get_or commands at d lt in
    elim adds as (λ _. ArePlacesBelow (LoadAt commands) (at + 1) new) [
      | inl yes_ ↦ place_yes (LoadAt commands) at (at + 1) old new refl (subst (λ o. IsSomeAnd o Loads) (sym stands) yes_.0) yes_.1 below
      | inr no_ ↦ subst (ArePlacesBelow (LoadAt commands) (at + 1)) (sym no_.1) (place_no (LoadAt commands) at (at + 1) old refl (λ h. no_.0 (subst (λ o. IsSomeAnd o Loads) stands h)) below)
    ]

-- ---- writes

pub row_some : (o : Option Var) (var : Var) (position : ℕ) (old new : List Use) → o ≡ Some var → new ≡ old ++ use_of position var.0 ∷ []
    → AddsRow (λ x. option_map (λ (v : Var). v.0) o ≡ Some x) position old new
row_some o var position old new is e =
    row_one (λ x. option_map (λ (v : Var). v.0) o ≡ Some x) position var.0 old new (ap (option_map (λ (v : Var). v.0)) is)
    (λ y h. same_Some var.0 y (sym (ap (option_map (λ (v : Var). v.0)) is) ∙ h)) e

pub written_same : (program : Program) (at : ℕ) (ys : List Command) (d : Command) (o : Option ℕ) → ys ≡ program.commands → at < length ys → o ≡ written_by program at (get_or ys at d)
    → (x : ℕ) → (o ≡ Some x) ↔ Writes program at x
written_same program at ys d o e lt is x =
    let stands : command_at program at ≡ Some (get_or ys at d) = sym (ap (λ l. slice_get l at) e) ∙ slice_get-get_or ys at d lt in
    subst (λ p. (o ≡ Some x) ↔ IsSomeAnd p (λ command. written_by program at command ≡ Some x)) (sym stands) ((λ h. sym is ∙ h), (λ h. is ∙ h))

pub stands_at : (program : Program) (at : ℕ) (ys : List Command) (d : Command) → ys ≡ program.commands → at < length ys → command_at program at ≡ Some (get_or ys at d)
stands_at program at ys d e lt = sym (ap (λ l. slice_get l at) e) ∙ slice_get-get_or ys at d lt

pub holds_here : (program : Program) (function position entry end : ℕ) → function < length program.functions → entry ≡ entry_of program function → end ≡ entry_of program (suc function)
    → entry ≤ position → position < end → Holds program function position
holds_here program function position entry end exists from to above below = record { exists = exists; from = omega arith; below = omega arith }

pub entry_up : (program : Program) (function : ℕ) → entry_of program function ≤ entry_of program (suc function)
entry_up program function = let up = sum_step (λ (f : FunctionDef). f.length) program.functions function in omega arith

module _ (program : Program) (facts : IsProgram program) where
  none_low : (position x : ℕ) → position < 7 → Writes program position x → ⊥
  none_low position x low writes =
      let trap = facts.traps position low in
      none-some x (subst (λ o. IsSomeAnd o (λ command. written_by program position command ≡ Some x)) trap.2 writes)

  pub writes_begin : (writes : List Use) → writes ≡ [] → AreBelow (Writes program) 7 writes
  writes_begin writes e = subst (AreBelow (Writes program) 7) (sym e) (nothing_below (Writes program) 7 (λ position x low h. none_low position x low h))

  pub writes_end : (number entry : ℕ) (writes : List Use) → length program.functions ≤ number → number ≤ length program.functions → entry ≡ entry_of program number → AreBelow (Writes program) entry writes
      → AreUses (Writes program) writes
  writes_end number entry writes ge le e below =
      let all : number ≡ length program.functions = omega arith in
      let end : entry_of program number ≡ entry_of program (length program.functions) = ap (entry_of program) all in
      all_below (Writes program) entry writes (λ position x h.
      let found = some_with (command_at program position) (λ command. written_by program position command ≡ Some x) h in
      let lt = slice_get_within program.commands position found.0 found.1 in
      let count = facts.lengths in
      omega arith) below

  module _ (rules : IsWellFormed program) (number : ℕ) (f : FunctionDef) (item : slice_get program.functions number ≡ Some f) where
    room : length f.params ≤ f.vars
    room = let fits = (all_get IsFunction program.functions number f rules.rule2.each item).variables in omega arith

    next_small : first_of program number + f.vars < 2 ^ 31
    next_small =
        let within = slice_get_within program.functions number f item in
        let next = next_first program number f item in
        let low = first_below program (suc number) (omega arith) in
        let most = rules.rule2.variables in
        omega arith

    pub params_fit : length f.params < 2 ^ 32
    params_fit = let a = room in let b = next_small in omega arith

    pub results_fit : (first : ℕ) → first ≡ first_of program number → first + length f.params < 2 ^ 32
    results_fit first e = let a = room in let b = next_small in omega arith

    pub end_is : (entry : ℕ) → entry ≡ entry_of program number → entry + f.length ≡ entry_of program (suc number)
    end_is entry e = let next = next_entry program number f item in omega arith

    pub end_fits : (entry : ℕ) → entry ≡ entry_of program number → entry + f.length < 2 ^ 32
    end_fits entry e =
        let within = slice_get_within program.functions number f item in
        let is = end_is entry e in
        let low = entry_below program (suc number) (omega arith) in
        let all = facts.lengths in
        let few = rules.rule2.commands in
        omega arith

    pub results_are : (first : ℕ) → first ≡ first_of program number → first + length f.params ≡ result program number 0
    results_are first e =
        let params : params_of program number ≡ length f.params = number_is (λ (g : FunctionDef). length g.params) program.functions number f item in
        omega arith

-- ---- the whole

pub made_graph : (program : Program) (commands : List Command) (loads : List Pos) (writes reads sinks : List Use) → commands ≡ program.commands → ArePlacesBelow (LoadAt commands) (length commands) loads
    → AreUses (Writes program) writes → AreUses (OperandAt moved_by commands) reads → AreUses (OperandAt sunk_by commands) sinks
    → IsGraph program (record { loads = loads; writes = writes; reads = reads; sinks = sinks })
made_graph program commands loads writes reads sinks e are_loads are_writes are_reads are_sinks =
    let loads_ = subst (λ l. ArePlacesBelow (LoadAt l) (length l) loads) e are_loads in
    record {
      loads = λ s. (
        (λ h. ((loads_.each s).0 h).1),
        (λ h. (loads_.each s).1 (let found = some_with (command_at program s) Loads h in slice_get_within program.commands s found.0 found.1, h)),
      );
      loads_rise = loads_.rise;
      writes = are_writes;
      reads = subst (λ l. AreUses (OperandAt moved_by l) reads) e are_reads;
      sinks = subst (λ l. AreUses (OperandAt sunk_by l) sinks) e are_sinks;
    }
