-- What holds of every program.
use Rattle.std.specs.Prelude.{◌≡◌, ◌<◌, ◌^◌, ℕ, IsTrue, not, List, length, All, Option, Some, None, slice_get}
use Rattle.bl_base.specs.Trap.{trap_number}
use Rattle.bl_base.specs.declared.trap.Trap.{Trap as TrapKind}
use Rattle.bl_ops.specs.Access.{is_load}
use Rattle.bl_ops.specs.OperatorTable.{row_of}
use Rattle.bl_ops.specs.declared.op.Op.{Op}
use Rattle.bl_ops.specs.declared.op.Op.TheVariants.{Move}
use Rattle.bl_ops.specs.declared.op.OpRow.{OpRow}
use Rattle.bl_program.specs.Layout.{entry_of}
use Rattle.bl_program.specs.declared.command.Operand.{Operand}
use Rattle.bl_program.specs.declared.command.Operand.TheVariants as operand
use Rattle.bl_program.specs.declared.command.Command.{Command}
use Rattle.bl_program.specs.declared.command.Command.TheVariants.{Set, Load, Store, Trap}
use Rattle.bl_program.specs.declared.definitions.ProgramParts.{ProgramParts as Program}

-- how many operands an operator with that row takes, or else one of the three without a row
abbrev pub arity_by : Op → Option OpRow → ℕ
arity_by op (Some row) = row.operands
arity_by Move None = 1
arity_by op None = 3

-- how many operands an operator takes
abbrev pub arity : Op → ℕ
arity op = arity_by op (row_of op)

-- the operand that stands where an operator takes none
abbrev pub IsZero : Operand → Type 0
IsZero value = value ≡ operand.Const 0

-- operands past those that an operator takes are 0
abbrev pub ArePadded : Op → Operand → Operand → Type 0
ArePadded op b c = (arity op < 2 → IsZero b) × (arity op < 3 → IsZero c)

-- each load has the kind of a load and each store that of a store, their offsets are numbers of 32 bits, since a number of a
-- definition has no bound of its own, and the operands of each Set are padded
abbrev pub IsCommand : Command → Type 0
IsCommand (Set mark op to a b c) = ArePadded op b c
IsCommand (Load mark kind memory to offset address) = IsTrue (is_load kind) × (offset < 2 ^ 32)
IsCommand (Store kind memory offset address value) = IsTrue (not (is_load kind)) × (offset < 2 ^ 32)
IsCommand _ = Unit {0}

-- the command at a position is the trap of that kind
abbrev pub IsTrapAt : List Command → ℕ → Type 0
IsTrapAt commands position = (kind : TrapKind) × (trap_number kind ≡ position) × (slice_get commands position ≡ Some (Trap kind))

-- the parts are those of a program
pub record IsProgram (program : Program) : Type 0 where
  pub commands : All IsCommand program.commands
  -- positions 0 to 6 are the traps of kinds 0 to 6
  pub traps : (position : ℕ) → position < 7 → IsTrapAt program.commands position
  -- the functions' lengths add up to the commands behind the traps
  pub lengths : length program.commands ≡ entry_of program (length program.functions)
