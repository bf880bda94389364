-- Each access lies in its own memory.
use Rattle.std.proofs.Common.{◌≡◌, inl, inr, ℕ, suc, ◌+◌, ◌*◌, ◌%◌, ◌^◌, ◌<◌, ◌≤◌, length, Some, refl, sym, ◌∙◌, subst, arith}
use Rattle.std.specs.Prelude.{IfSome}
use Rattle.std.proofs.lemmas.Option.{same_Some}
use Rattle.bl_base.proofs.Lists.{all_get, within_get}
use Rattle.bl_ops.specs.Access.{width_of}
use Rattle.bl_ops.specs.declared.op.Op.TheVariants.{Outside}
use Rattle.bl_program.proofs.Layouts.{sum_more}
use Rattle.bl_program.specs.Layout.{size_of, command_at, Holds}
use Rattle.bl_program.specs.Programs.{IsProgram, IsCommand}
use Rattle.bl_program.specs.Rules.{IsWellFormed, IsGuarded, IsTested, Reach, reach_of, variable}
use Rattle.bl_program.specs.Steps.{Plain, value_of}
use Rattle.bl_program.specs.declared.command.Command.{Command}
use Rattle.bl_program.specs.declared.command.Command.TheVariants.{Set, Load, Store, Test, Trap}
use Rattle.bl_program.specs.declared.command.Operand.{Operand}
use Rattle.bl_program.specs.declared.command.Operand.TheVariants.{Const}
use Rattle.bl_program.specs.declared.definitions.MemoryDef.{MemoryDef}
use Rattle.bl_program.specs.declared.definitions.ProgramParts.{ProgramParts as Program}
use Rattle.bl_seq.specs.OwnMemory.{IsInside}
use Rattle.bl_seq.proofs.OwnSizes.{sized}
use Rattle.bl_seq.proofs.OwnSteps.{Reached, stands, Came, came, passed}
use Rattle.bl_seq.proofs.OwnWrites.{outside_then, size_value, size_apart, set_result, set_other, test_zero}
use Rattle.bl_ops.proofs.AccessLemmas.{width_small}

module _ (program : Program) (facts : IsProgram program) (rules : IsWellFormed program) where
  -- an access behind its test
  module _ (f position : ℕ) (access : Reach) (tested : IsTested program f position access) (exists : access.memory < length program.memories) (few : access.bytes < 2 ^ 34) where
    abbrev size : Operand
    size = variable (size_of program access.memory)

    abbrev First : Command
    First = Set tested.mark Outside (record { 0 = tested.t }) access.address size (Const access.bytes)

    abbrev Second : Command
    Second = Test (variable tested.t) (record { 0 = tested.yes }) (record { 0 = position })

    -- where the two commands before it were performed
    cleared_by : (s : Plain) (c1 : Came program (suc tested.first) Second s) (c0 : Came program tested.first First c1.before) → s.position ≡ position
        → value_of program access.address s % 2 ^ 32 + access.bytes ≤ s.registers 0 (size_of program access.memory) * 65536
    cleared_by s c1 c0 is =
        let untaken : (value_of program (variable tested.t) c1.before % 2 ^ 32 ≡ 0) × ((y : Operand) → value_of program y s ≡ value_of program y c1.before) = test_zero program c1 tested.away is in
        outside_then (value_of program access.address s) (s.registers 0 (size_of program access.memory)) access.bytes (value_of program access.address c0.before) (value_of program size c0.before)
        (value_of program (variable tested.t) c1.before) few
        (untaken.1 access.address ∙ set_other program c0 access.address tested.apart)
        (sym (size_value program access.memory s exists) ∙ untaken.1 size ∙ set_other program c0 size (size_apart program f access.memory tested.t exists tested.own))
        (set_result program c0) untaken.0

    cleared : (s : Plain) → Reached program s → s.position ≡ position → value_of program access.address s % 2 ^ 32 + access.bytes ≤ s.registers 0 (size_of program access.memory) * 65536
    cleared s r is = first (came program facts rules (suc tested.first) Second tested.test (λ _ h. cc) (subst (IsGuarded program (suc tested.first)) tested.place tested.guarded) s r (is ∙ tested.place))
      where
        first : Came program (suc tested.first) Second s → value_of program access.address s % 2 ^ 32 + access.bytes ≤ s.registers 0 (size_of program access.memory) * 65536
        first c1 = cleared_by s c1 (came program facts rules tested.first First tested.set (λ _ h. cc) (passed program _ _ tested.test_passed) c1.before c1.reached c1.place) is

  module _ (s : Plain) (r : Reached program s) (f : ℕ) (holds : Holds program f s.position) where
    in_own : (access : Reach) → IsTested program f s.position access → access.memory < length program.memories → access.bytes < 2 ^ 34 → IsInside program s access
    in_own access tested exists few =
        let got = within_get program.memories access.memory exists in
        let next = sum_more (λ (m : MemoryDef). m.reserve * 65536) program.memories access.memory got.0 got.1 in
        let le = sized program facts rules s r access.memory got.0 got.1 in
        let clear = cleared f s.position access tested exists few s r refl in
        record { pages = clear; space = omega arith }

    inside_by : (k : Command) → command_at program s.position ≡ Some k → IfSome (reach_of k) (IsInside program s)
    inside_by (Load m kind memory x offset a) e =
        let k : Command = Load m kind memory x offset a in
        let small = (all_get IsCommand program.commands s.position k facts.commands e).1 in
        let width = width_small kind in
        in_own (record { address = a; memory = memory; bytes = offset + width_of kind }) (rules.rule7 s.position f k holds e) (rules.rule6 s.position f k holds e).1 (omega arith)
    inside_by (Store kind memory offset a b) e =
        let k : Command = Store kind memory offset a b in
        let small = (all_get IsCommand program.commands s.position k facts.commands e).1 in
        let width = width_small kind in
        in_own (record { address = a; memory = memory; bytes = offset + width_of kind }) (rules.rule7 s.position f k holds e) (rules.rule6 s.position f k holds e) (omega arith)
    inside_by _ e = tt

  -- no trap accesses a memory
  trap_inside : (s : Plain) (k : Command) → s.position < 7 → command_at program s.position ≡ Some k → IfSome (reach_of k) (IsInside program s)
  trap_inside s k lt e =
      let trap = facts.traps s.position lt in
      subst (λ (k : Command). IfSome (reach_of k) (IsInside program s)) (same_Some (Trap trap.0) k (sym trap.2 ∙ e)) tt

  pub inside : (s : Plain) → Reached program s → (k : Command) → command_at program s.position ≡ Some k → IfSome (reach_of k) (IsInside program s)
  inside s r k e = elim (stands program facts rules s r).position as (λ _. IfSome (reach_of k) (IsInside program s)) [
    | inl lt ↦ trap_inside s k lt e
    | inr own ↦ inside_by s r own.0 own.1 k e
  ]
