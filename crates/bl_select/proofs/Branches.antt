-- Tests and jumps do what their commands do.
use Rattle.std.proofs.Common.{◌≡◌, ℕ, suc, ◌+◌, ◌%◌, ◌^◌, ◌<◌, ◌≤◌, Bool, true, false, not, eqb, Some, List, [], ◌∷◌, refl, sym, ap, ap₂, ◌∙◌, subst, arith}
use Rattle.bl_base.specs.Runs.{goes, StepsTo}
use Rattle.bl_program.specs.Steps.{Plain, held, depth, value_of}
use Rattle.bl_program.specs.declared.command.Operand.{Operand}
use Rattle.bl_program.specs.declared.definitions.ProgramParts.{ProgramParts as Program}
use Rattle.bl_x64.specs.Operations.{alu_flags, holds}
use Rattle.bl_x64.specs.Machines.{Core, goes_on, jumps, if_holds, with_register, effect}
use Rattle.bl_x64.specs.Programs.{machine_step}
use Rattle.bl_x64.specs.declared.register.Register.TheVariants.{Rax, Rsp, R14, R15}
use Rattle.bl_x64.specs.declared.instruction.Size.TheVariants.{Long}
use Rattle.bl_x64.specs.declared.instruction.Alu.TheVariants as alu
use Rattle.bl_x64.specs.declared.instruction.Condition.TheVariants.{NotEqual}
use Rattle.bl_x64.specs.declared.instruction.Instruction.{Instruction}
use Rattle.bl_x64.specs.declared.instruction.Instruction.TheVariants as i
use Rattle.bl_select.specs.Frames.{Frame, IsFrame, Placing, IsPlacing, Passes, source_of, IsSource, Matches, held_at}
use Rattle.bl_select.specs.StraightRuns.{Stands}
use Rattle.bl_select.specs.Templates.{load, test_template}
use Rattle.bl_select.specs.declared.location.Source.TheVariants.{At}
use Rattle.bl_select.proofs.Keeping.{Keeps, keeps_all, keeps_put, keeps_same, number_kept, load_is}
use Rattle.bl_select.proofs.Matching.{bases, source_is, source_fits}
use Rattle.bl_select.proofs.Steps.{standing, one_step, one_jump}
use Rattle.bl_select.proofs.Values.{and_same}

-- the machine matches at another position, where only scratch registers and flags were written
pub matches_kept : (program : Program) (f : Frame) (p q : Placing) (s : Plain) (c d : Core) (to : ℕ) → IsPlacing f p → Matches program f p s c → Passes p q → Keeps c d
    → Matches program f q (record s { position = to }) d
matches_kept program f p q s c d to placing m passes k = record {
  slots = k.registers Rsp refl ∙ m.slots;
  context = k.registers R15 refl ∙ m.context;
  memory = k.registers R14 refl ∙ m.memory;
  variables = λ y h.
      let was = passes.others y h in
      ap (held_at f d) was.1 ∙ (number_kept f c d (At (p.location y)) (s.registers (held program (depth s) y) y) k (placing.locations y was.0, m.variables y was.0)).1;
  fits = λ y h. m.fits y (passes.others y h).0;
  space = λ place lt. ap (λ b. b (f.areas.memory.start + place)) k.memory ∙ m.space place lt;
  bytes = λ at. subst (λ b. b at < 2 ^ 8) (sym k.memory) (m.bytes at);
  room = m.room;
}

module _ (program : Program) (f : Frame) (p : Placing) (s : Plain) (c : Core) (ok : IsFrame f) (placing : IsPlacing f p) (m : Matches program f p s c)
    (code : List Instruction) (at : ℕ) (a : Operand) (a_ok : IsSource p a) (one other : ℕ) (stands : Stands code at (test_template (source_of p a) one other)) where
  abbrev va : ℕ
  va = value_of program a s

  abbrev pub first : Core
  first = with_register c Rax (va % 2 ^ 32)

  abbrev pub tested : Core
  tested = record first { flags = alu_flags alu.And 32 (va % 2 ^ 32 % 2 ^ 32) (va % 2 ^ 32 % 2 ^ 32) }

  keeps_tested : Keeps c tested
  keeps_tested = keeps_same c first tested refl refl (keeps_put c c first Rax (va % 2 ^ 32) refl refl refl (keeps_all c))

  pub step_load : machine_step f.areas code (standing at c) ≡ goes (standing (suc at) first)
  step_load = one_step f.areas code at (load Long Rax (source_of p a)) c first stands.0
      (load_is f c Long Rax (source_of p a) va (bases program f p s c ok placing m) (source_is program f p s c ok placing m a a_ok) (source_fits program f p s c ok placing m a a_ok))

  step_test : machine_step f.areas code (standing (suc at) first) ≡ goes (standing (suc (suc at)) tested)
  step_test = one_step f.areas code (suc at) (i.Test Long Rax Rax) first tested stands.1.0 refl

  -- the branch is taken where the condition isn't 0
  pub told : (t : Bool) → eqb (va % 2 ^ 32) 0 ≡ t → holds NotEqual tested.flags ≡ Some (not t)
  told t e =
      let small : va % 2 ^ 32 % 2 ^ 32 ≡ va % 2 ^ 32 = omega arith in
      ap₂ (λ x y. holds NotEqual (alu_flags alu.And 32 x y)) small small
      ∙ ap (λ z. Some (not z)) (and_same Long va (source_fits program f p s c ok placing m a a_ok) ∙ e)

  pub effect_is : (t : Bool) → eqb (va % 2 ^ 32) 0 ≡ t → effect f.areas (i.JumpIf NotEqual one) tested ≡ if_holds (Some (not t)) (jumps one tested) (goes_on tested)
  effect_is t e = ap (λ o. if_holds o (jumps one tested) (goes_on tested)) (told t e)

  -- where the test leads
  abbrev target : Bool → ℕ
  target true = other
  target false = one

  pub test_steps : (t : Bool) → eqb (va % 2 ^ 32) 0 ≡ t
      → (n : ℕ) × (d : Core) × (1 ≤ n) × (n ≤ 4) × StepsTo (machine_step f.areas code) n (standing at c) (standing (target t) d) × Keeps c d
  test_steps false e = (
    3,
    tested,
    omega arith,
    omega arith,
    (
      standing (suc at) first,
      step_load,
      (
        standing (suc (suc at)) tested,
        step_test,
        (standing one tested, one_jump f.areas code (suc (suc at)) one (i.JumpIf NotEqual one) tested tested stands.1.1.0 (effect_is false e), refl),
      ),
    ),
    keeps_tested,
  )
  test_steps true e = (
    4,
    tested,
    omega arith,
    omega arith,
    (
      standing (suc at) first,
      step_load,
      (
        standing (suc (suc at)) tested,
        step_test,
        (
          standing (suc (suc (suc at))) tested,
          one_step f.areas code (suc (suc at)) (i.JumpIf NotEqual one) tested tested stands.1.1.0 (effect_is true e),
          (standing other tested, one_jump f.areas code (suc (suc (suc at))) other (i.Jump other) tested tested stands.1.1.1.0 refl, refl),
        ),
      ),
    ),
    keeps_tested,
  )
