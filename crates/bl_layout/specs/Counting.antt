-- A small program, its instructions, and a frame and a state in which its run can begin: the premises of `laid_out_runs_follow` hold for it. It adds 1 to
-- its only variable until this is 0 modulo 2 ^ 32, and then comes to the trap 0.
use Rattle.std.specs.Prelude.{ℕ, map, take, ◌++◌, false, List, [], ◌∷◌}
use Rattle.bl_base.specs.Trap.{kinds}
use Rattle.bl_base.specs.declared.start.Start.{Start}
use Rattle.bl_ops.specs.declared.op.Op.TheVariants.{I32Add}
use Rattle.bl_program.specs.Outcomes.{opening}
use Rattle.bl_program.specs.Rules.{variable}
use Rattle.bl_program.specs.Steps.{Plain}
use Rattle.bl_program.specs.declared.command.Command.TheVariants.{Set, Test, Trap}
use Rattle.bl_program.specs.declared.command.Operand.TheVariants.{Const}
use Rattle.bl_program.specs.declared.definitions.ProgramParts.{ProgramParts as Program}
use Rattle.bl_x64.specs.Machines.{Core}
use Rattle.bl_x64.specs.Operations.{unknown}
use Rattle.bl_x64.specs.Registers.{Registers}
use Rattle.bl_x64.specs.declared.instruction.Instruction.{Instruction}
use Rattle.bl_x64.specs.declared.register.Register.TheVariants.{Rax, Rcx, Rsp, R14, R15}
use Rattle.bl_x64.specs.declared.instruction.Alu.TheVariants as alu
use Rattle.bl_x64.specs.declared.instruction.Condition.TheVariants.{NotEqual}
use Rattle.bl_x64.specs.declared.instruction.Instruction.TheVariants as i
use Rattle.bl_x64.specs.declared.instruction.Place.TheVariants as place
use Rattle.bl_x64.specs.declared.instruction.Size.TheVariants.{Long}
use Rattle.bl_x64.specs.declared.instruction.Width.TheVariants as width
use Rattle.bl_select.specs.Frames.{Frame}
use Rattle.bl_select.specs.Templates.{behind}

-- positions 7 and 8 are its only function
abbrev pub counting : Program
counting = record {
  globals = [];
  memories = [];
  functions = record { params = []; results = []; vars = 1; length = 2 } ∷ [];
  exports = [];
  commands = map Trap (take 7 kinds)
      ++ Set (record { depth = 0; protect = false }) I32Add (record { 0 = 0 }) (variable 0) (Const 1) (Const 0)
      ∷ Test (variable 0) (record { 0 = 7 }) (record { 0 = 0 })
      ∷ [];
  demands = [];
  weights = [];
}

-- it takes no arguments
abbrev pub nothing : Start
nothing = record { args = []; patches = [] }

-- the state at its entry
abbrev pub begun : Plain
begun = opening counting 0 nothing

-- the first instruction of each position, and the number of all
abbrev pub counting_starts : List ℕ
counting_starts = 0 ∷ 1 ∷ 2 ∷ 3 ∷ 4 ∷ 5 ∷ 6 ∷ 7 ∷ 11 ∷ 15 ∷ []

-- its instructions
abbrev pub counting_code : List Instruction
counting_code =
    i.Jump 0 ∷ i.Jump 1 ∷ i.Jump 2 ∷ i.Jump 3 ∷ i.Jump 4 ∷ i.Jump 5 ∷ i.Jump 6
    ∷ i.Mov Long Rax (place.Memory (behind Rsp 0)) ∷ i.Constant Rcx 1 ∷ i.Alu alu.Add Long Rax (place.Register Rcx) ∷ i.Store width.Quad (behind Rsp 0) Rax
    ∷ i.Mov Long Rax (place.Memory (behind Rsp 0)) ∷ i.Test Long Rax Rax ∷ i.JumpIf NotEqual 7 ∷ i.Jump 0 ∷ []

-- three areas of 4096 bytes, with a frame at the beginning of the slots. No instruction of the program reads the table of addresses, so each is 0
abbrev pub counting_frame : Frame
counting_frame = record {
  areas = record {
    context = record { start = 0x10000; size = 4096 };
    slots = record { start = 0x20000; size = 4096 };
    memory = record { start = 0x30000; size = 4096 };
    starts = λ position. 0;
  };
  base = 0x20000;
  size = 8;
}

-- registers that point to the areas
abbrev pub counting_registers : Registers
counting_registers Rsp = 0x20000
counting_registers R15 = 0x10000
counting_registers R14 = 0x30000
counting_registers r = 0

-- a state in which all bytes are 0
abbrev pub counting_core : Core
counting_core = record { registers = counting_registers; flags = unknown; memory = λ address. 0 }
