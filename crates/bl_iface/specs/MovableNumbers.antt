-- Numbers that can be moved.
use Rattle.std.specs.Prelude.{◌<◌, ◌+◌, ◌^◌, ℕ}
use Rattle.bl_program.specs.declared.command.Command.{Command}
use Rattle.bl_program.specs.declared.command.Command.TheVariants.{Set, Load, Store, Test, Jump, Arg, Call, Out, Ret, Trap}
use Rattle.bl_program.specs.declared.command.Operand.{Operand}
use Rattle.bl_program.specs.declared.command.Operand.TheVariants.{Var, Const}
use Rattle.bl_program.specs.declared.definitions.Demand.{Demand}
use Rattle.bl_program.specs.declared.definitions.Demand.TheVariants.{Result, Global}
use Rattle.bl_iface.specs.declared.shift.Shift.{Shift}

-- a variable is within 32 bits wherever it is moved to
pub record IsSmall (shift : Shift) (x : ℕ) : Type 0 where
  pub globals : x + shift.globals < 2 ^ 32
  pub sizes : x + shift.sizes < 2 ^ 32
  pub vars : x + shift.vars < 2 ^ 32

-- an operand's variable is
abbrev pub IsSmallOperand : Shift → Operand → Type 0
IsSmallOperand shift (Var x) = IsSmall shift x.0
IsSmallOperand shift (Const number) = Unit {0}

-- a position is within 32 bits where it is moved to
abbrev pub IsNear : Shift → ℕ → Type 0
IsNear shift position = position + shift.commands < 2 ^ 32

-- all numbers of a command can be moved
abbrev pub IsMovable : Shift → Command → Type 0
IsMovable shift (Set mark op to a b c) = IsSmall shift to.0 × IsSmallOperand shift a × IsSmallOperand shift b × IsSmallOperand shift c
IsMovable shift (Load mark kind memory to offset address) = IsSmall shift to.0 × IsSmallOperand shift address × (shift.memories + memory < 2 ^ 32)
IsMovable shift (Store kind memory offset address value) = IsSmallOperand shift address × IsSmallOperand shift value × (shift.memories + memory < 2 ^ 32)
IsMovable shift (Test cond one other) = IsSmallOperand shift cond × IsNear shift one.0 × IsNear shift other.0
IsMovable shift (Jump to) = IsNear shift to.0
IsMovable shift (Arg mark function index value) = IsSmallOperand shift value × (shift.functions + function < 2 ^ 32)
IsMovable shift (Call function) = shift.functions + function < 2 ^ 32
IsMovable shift (Out mark index value) = IsSmallOperand shift value
IsMovable shift Ret = Unit {0}
IsMovable shift (Trap kind) = Unit {0}

-- a demand's number can be moved
abbrev pub IsDemandSmall : Shift → Demand → Type 0
IsDemandSmall shift (Result function index) = shift.functions + function < 2 ^ 32
IsDemandSmall shift (Global x) = shift.globals + x < 2 ^ 32
