-- What holds in each state that a plain run of a well-formed program comes to.
use Rattle.std.specs.Prelude.{◌≡◌, ◌≤◌, ℕ, suc, ◌+◌, ◌*◌, ◌%◌, ◌^◌, Some, slice_get}
use Rattle.bl_base.specs.Runs.{StepsTo}
use Rattle.bl_base.specs.declared.start.Start.{Start}
use Rattle.bl_program.specs.Layout.{size_of, base}
use Rattle.bl_program.specs.Outcomes.{IsStart, opening}
use Rattle.bl_program.specs.Programs.{IsProgram}
use Rattle.bl_program.specs.Rules.{IsWellFormed, Reach}
use Rattle.bl_program.specs.Steps.{Registers, Plain, value_of, plain_step}
use Rattle.bl_program.specs.declared.definitions.MemoryDef.{MemoryDef}
use Rattle.bl_program.specs.declared.definitions.ProgramParts.{ProgramParts as Program}

-- the program is well-formed, and the plain run of one of its functions from a start that fits it comes to the state
pub record IsReached (program : Program) (s : Plain) : Type 0 where
  pub facts : IsProgram program
  pub rules : IsWellFormed program
  pub function : ℕ
  pub start : Start
  pub start_fits : IsStart program function start
  pub steps : ℕ
  pub comes : StepsTo (plain_step program) steps (opening program function start) s

-- the pages that each memory has, in its size variable at depth 0, are at most its reserve
abbrev pub HasSizes : Program → Registers → Type 0
HasSizes program registers = (memory : ℕ) (defined : MemoryDef) → slice_get program.memories memory ≡ Some defined
    → registers 0 (size_of program memory) ≤ defined.reserve

-- an access ends within the pages that its memory has, and in the space of all memories before the next memory begins; its
-- address is taken modulo 2^32
pub record IsInside (program : Program) (s : Plain) (access : Reach) : Type 0 where
  pub pages : value_of program access.address s % 2 ^ 32 + access.bytes ≤ s.registers 0 (size_of program access.memory) * 65536
  pub space : base program access.memory + (value_of program access.address s % 2 ^ 32 + access.bytes) ≤ base program (suc access.memory)
