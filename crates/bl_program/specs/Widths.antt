-- Numbers of a program are of their widths, since a number of a definition has no bound of its own.
use Rattle.std.specs.Prelude.{◌≡◌, ◌^◌, ◌<◌, length, All}
use Rattle.bl_base.specs.Fits.{AreBytes}
use Rattle.bl_program.specs.declared.command.Operand.{Operand}
use Rattle.bl_program.specs.declared.command.Operand.TheVariants as operands
use Rattle.bl_program.specs.declared.command.Command.{Command}
use Rattle.bl_program.specs.declared.command.Command.TheVariants.{Set, Load, Store, Test, Arg, Out}
use Rattle.bl_program.specs.declared.definitions.ProgramParts.{ProgramParts as Program}

-- a constant is a number of 64 bits
abbrev pub HasWidth : Operand → Type 0
HasWidth (operands.Var x) = Unit {0}
HasWidth (operands.Const n) = n < 2 ^ 64

-- so are those of a command
abbrev pub HasConstants : Command → Type 0
HasConstants (Set mark op to a b c) = HasWidth a × HasWidth b × HasWidth c
HasConstants (Load mark kind memory to offset address) = HasWidth address
HasConstants (Store kind memory offset address value) = HasWidth address × HasWidth value
HasConstants (Test cond one other) = HasWidth cond
HasConstants (Arg mark function index value) = HasWidth value
HasConstants (Out mark index value) = HasWidth value
HasConstants _ = Unit {0}

-- the numbers of a program that its rules bound nowhere by themselves (of listed weights they bound the sum)
pub record HasWidths (program : Program) : Type 0 where
  pub constants : All HasConstants program.commands
  -- a row is of 16 bytes
  pub rows : All (λ memory. All (λ row. length row.bytes ≡ 16) memory.rows) program.memories
  -- exports, and the bytes of their names, are counted in 64 bits
  pub exports : length program.exports < 2 ^ 64
  pub names : All (λ entry. length entry.name < 2 ^ 64) program.exports
  pub weights : All (λ entry. entry.weight < 2 ^ 64) program.weights

-- the bytes of rows and of names are bytes
pub record HasByteWidths (program : Program) : Type 0 where
  pub rows : All (λ memory. All (λ row. AreBytes row.bytes) memory.rows) program.memories
  pub names : All (λ entry. AreBytes entry.name) program.exports
