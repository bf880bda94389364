-- Programs of commands that are laid out as programs of instructions, with all variables in the frame and the context.
use Rattle.std.specs.Prelude.{◌≡◌, ℕ, ◌+◌, ◌<◌, ◌≤◌, List, length, Some, slice_index}
use Rattle.bl_program.specs.Layout.{command_at}
use Rattle.bl_program.specs.declared.command.Command.{Command}
use Rattle.bl_program.specs.declared.definitions.ProgramParts.{ProgramParts as Program}
use Rattle.bl_x64.specs.declared.instruction.Instruction.{Instruction}
use Rattle.bl_layout.specs.Blocks.{AreWritable, IsWritable, blocks_from, count_from}

-- a list of the first instruction of each position, and of the end, where the targets of jumps are those of a table
pub record AreStarts (program : Program) (targets : ℕ → ℕ) (starts : List ℕ) : Type 0 where
  pub count : length starts ≡ length program.commands + 1
  pub each : (k : ℕ) → k ≤ length program.commands → slice_index starts k ≡ count_from program targets 0 program.commands k

-- each command of a function can be written, the table has the first instruction of each, and the code is the instructions of all commands
pub record IsLaidOut (program : Program) (starts : List ℕ) (code : List Instruction) : Type 0 where
  pub writable : AreWritable program
  pub starts_are : AreStarts program (slice_index starts) starts
  pub code_is : code ≡ blocks_from program (slice_index starts) 0 program.commands

-- the first command of a function that cannot be written is at this position. No trap is refused, although `IsWritable` holds for none
pub record IsFirstRefused (program : Program) (position : ℕ) : Type 0 where
  pub of_a_function : 7 ≤ position
  pub command : Command
  pub there : command_at program position ≡ Some command
  pub refused : IsWritable program position command → ⊥
  pub before : (other : ℕ) (earlier : Command) → 7 ≤ other → other < position → command_at program other ≡ Some earlier → IsWritable program other earlier
