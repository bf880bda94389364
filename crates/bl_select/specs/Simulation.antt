-- What it means that instructions do what a command does.
use Rattle.std.specs.Prelude.{◌≡◌, ℕ, ◌+◌, ◌^◌, ◌<◌, ◌≤◌, List, length}
use Rattle.bl_base.specs.Runs.{goes, StepsTo}
use Rattle.bl_ops.specs.Access.{width_of}
use Rattle.bl_ops.specs.declared.access.AccessKind.{AccessKind}
use Rattle.bl_program.specs.Steps.{Plain, plain_step, effective, value_of}
use Rattle.bl_program.specs.declared.command.Operand.{Operand}
use Rattle.bl_program.specs.declared.definitions.ProgramParts.{ProgramParts as Program}
use Rattle.bl_x64.specs.Machines.{Core}
use Rattle.bl_x64.specs.Programs.{Machine, machine_step}
use Rattle.bl_x64.specs.declared.instruction.Instruction.{Instruction}
use Rattle.bl_select.specs.Frames.{Frame, IsFrame, KeepsFrames, Placing, IsPlacing, Matches}

-- a state of the plain run and one of the machine that matches it
pub record IsStage (program : Program) (f : Frame) (p : Placing) (s : Plain) (c : Core) : Type 0 where
  pub frame : IsFrame f
  pub placing : IsPlacing f p
  pub matches : Matches program f p s c

-- the state of the machine at the instruction of a number
abbrev pub at : ℕ → Core → Machine
at position c = record { position = position; core = c }

-- The plain run has a step. From the first instruction of a template, the machine reaches the instruction after the last one, in as many steps as
-- the template has instructions. The state there matches the next state of the plain run, and no byte of other frames has changed
pub record Follows (program : Program) (f : Frame) (q : Placing) (s : Plain) (code : List Instruction) (position : ℕ) (template : List Instruction) (c : Core) : Type 0 where
  pub next : Plain
  pub core : Core
  pub plain : plain_step program s ≡ goes next
  pub steps : StepsTo (machine_step f.areas code) (length template) (at position c) (at (length template + position) core)
  pub matches : Matches program f q next core
  pub frames : KeepsFrames f c core

-- The plain run has a step. In one to four steps the machine reaches the first instruction of the plain run's next command. The state there matches,
-- and no byte of other frames has changed
pub record Branches (program : Program) (f : Frame) (placing : ℕ → Placing) (begins : ℕ → ℕ) (s : Plain) (code : List Instruction) (position : ℕ) (c : Core) : Type 0 where
  pub next : Plain
  pub core : Core
  pub count : ℕ
  pub some : 1 ≤ count
  pub few : count ≤ 4
  pub plain : plain_step program s ≡ goes next
  pub steps : StepsTo (machine_step f.areas code) count (at position c) (at (begins next.position) core)
  pub matches : Matches program f (placing next.position) next core
  pub frames : KeepsFrames f c core

-- an access lies in the space of all memories. The law `accesses_lie_within` gives this for each access that a run of a well-formed program reaches
pub record IsWithin (program : Program) (s : Plain) (kind : AccessKind) (memory offset : ℕ) (address : Operand) : Type 0 where
  pub ends : effective program memory offset (value_of program address s) + width_of kind ≤ length s.space
  pub small : length s.space < 2 ^ 63
