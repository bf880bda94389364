-- The instructions of each command of a program, one after another. The five commands that have templates get these. The traps, at positions 0 to 6,
-- have no template yet: each is one jump to itself, so that a run which comes to a trap stays there. Every other command is refused.
use Rattle.std.specs.Prelude.{◌≡◌, ◌≤◌, ℕ, zero, suc, ◌+◌, IsTrue, nat_lt, if◌then◌else◌, List, [], ◌∷◌, ◌++◌, length, Some}
use Rattle.bl_program.specs.Layout.{base, command_at}
use Rattle.bl_program.specs.declared.command.Command.{Command}
use Rattle.bl_program.specs.declared.command.Command.TheVariants.{Set, Load, Store, Test, Jump}
use Rattle.bl_program.specs.declared.definitions.ProgramParts.{ProgramParts as Program}
use Rattle.bl_x64.specs.declared.instruction.Instruction.{Instruction}
use Rattle.bl_select.specs.Frames.{Placing, source_of, IsSource}
use Rattle.bl_select.specs.Templates.{set_template, load_template, store_template, test_template, jump_template}
use Rattle.bl_layout.specs.Slots.{AreFew, is_alive_in, placing_at, placing_in, slots_at}
use Rattle.bl_layout.specs.declared.slots.Slots.{Slots}

-- ---- commands that can be written

-- a command that has a template, and names only globals, sizes and variables of its function
abbrev pub IsWritten : Slots → Command → Type 0
IsWritten slots (Set mark op x a b c) =
    IsTrue (is_alive_in slots x.0) × IsSource (placing_in slots) a × IsSource (placing_in slots) b × IsSource (placing_in slots) c
IsWritten slots (Load mark kind memory x offset a) = IsTrue (is_alive_in slots x.0) × IsSource (placing_in slots) a
IsWritten slots (Store kind memory offset a b) = IsSource (placing_in slots) a × IsSource (placing_in slots) b
IsWritten slots (Test a one other) = IsSource (placing_in slots) a
IsWritten slots (Jump to) = Unit {0}
IsWritten slots command = ⊥

-- the same at a position of a function
pub record IsWritable (program : Program) (position : ℕ) (command : Command) : Type 0 where
  pub few : AreFew (slots_at program position)
  pub written : IsWritten (slots_at program position) command

-- each command of a function can be written
pub record AreWritable (program : Program) : Type 0 where
  pub each : (position : ℕ) (command : Command) → 7 ≤ position → command_at program position ≡ Some command → IsWritable program position command

-- ---- their instructions

-- the instructions of a command, given the placing, the place at which the bytes of each memory begin, and the first instruction of each position
abbrev pub block_of : Placing → (ℕ → ℕ) → (ℕ → ℕ) → Command → List Instruction
block_of p bases begins (Set mark op x a b c) = set_template mark.protect op (p.location x.0) (source_of p a) (source_of p b) (source_of p c)
block_of p bases begins (Load mark kind memory x offset a) = load_template mark.protect kind (p.location x.0) (bases memory + offset) (source_of p a)
block_of p bases begins (Store kind memory offset a b) = store_template kind (bases memory + offset) (source_of p a) (source_of p b)
block_of p bases begins (Test a one other) = test_template (source_of p a) (begins one.0) (begins other.0)
block_of p bases begins (Jump to) = jump_template (begins to.0)
block_of p bases begins command = []

-- the instructions of the command at a position
abbrev pub block_at : Program → (ℕ → ℕ) → ℕ → Command → List Instruction
block_at program begins position command =
    if nat_lt position 7 then jump_template (begins position) else block_of (placing_at program position) (base program) begins command

-- the instructions of commands that stand from a position on
abbrev pub blocks_from : Program → (ℕ → ℕ) → ℕ → List Command → List Instruction
blocks_from program begins position [] = []
blocks_from program begins position (command ∷ commands) = block_at program begins position command ++ blocks_from program begins (suc position) commands

-- the number of instructions of the first k of these commands
abbrev pub count_from : Program → (ℕ → ℕ) → ℕ → List Command → ℕ → ℕ
count_from program begins position commands zero = 0
count_from program begins position [] (suc k) = 0
count_from program begins position (command ∷ commands) (suc k) = length (block_at program begins position command) + count_from program begins (suc position) commands k
