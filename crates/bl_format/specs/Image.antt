-- The image of a program: its bytes.
use Rattle.std.specs.Prelude.{◌≡◌, ℕ, ◌+◌, List, [], ◌∷◌, length, take, drop, if◌then◌else◌}
use Rattle.bl_base.specs.Trap.{trap_number as trap_code}
use Rattle.bl_base.specs.declared.trap.Trap.{Trap as TrapKind}
use Rattle.bl_base.specs.declared.names.Label.{Label}
use Rattle.bl_base.specs.declared.names.Label.TheVariants.{Public, Secret}
use Rattle.bl_base.specs.declared.names.ValueType.{ValueType}
use Rattle.bl_base.specs.declared.names.ValueType.TheVariants.{I32, I64}
use Rattle.bl_ops.specs.Access.{access_code}
use Rattle.bl_ops.specs.declared.access.AccessKind.{AccessKind}
use Rattle.bl_ops.specs.declared.op.Op.{Op}
use Rattle.bl_ops.specs.OperatorTable.{image_code_of}
use Rattle.bl_program.specs.Programs.{arity, IsCommand, IsProgram}
use Rattle.bl_program.specs.Rules.{IsMark}
use Rattle.bl_program.specs.declared.command.Operand.{Operand}
use Rattle.bl_program.specs.declared.command.Operand.TheVariants as operands
use Rattle.bl_program.specs.declared.command.Mark.{Mark}
use Rattle.bl_program.specs.declared.command.Command.{Command}
use Rattle.bl_program.specs.declared.command.Command.TheVariants.{Set, Load, Store, Test, Jump, Arg, Call, Out, Ret, Trap}
use Rattle.bl_program.specs.declared.definitions.Demand.{Demand}
use Rattle.bl_program.specs.declared.definitions.Demand.TheVariants as demands
use Rattle.bl_program.specs.declared.definitions.ExportDef.{ExportDef}
use Rattle.bl_program.specs.declared.definitions.FunctionDef.{FunctionDef}
use Rattle.bl_program.specs.declared.definitions.GlobalDef.{GlobalDef}
use Rattle.bl_program.specs.declared.definitions.MemRow.{MemRow}
use Rattle.bl_program.specs.declared.definitions.MemoryDef.{MemoryDef}
use Rattle.bl_program.specs.declared.definitions.ParamDef.{ParamDef}
use Rattle.bl_program.specs.declared.definitions.ProgramParts.{ProgramParts as Program}
use Rattle.bl_program.specs.declared.definitions.SiteWeight.{SiteWeight}
use Rattle.bl_leb.specs.Grammar.{Spellings, ◌⨾◌, nothing, exactly, byte, given}
use Rattle.bl_format.specs.Grammar.{each, u32, u64, vec, rising}

-- ---- parts of several tables

-- 7F i32, 7E i64
abbrev pub type_code : ValueType → ℕ
type_code I32 = 0x7F
type_code I64 = 0x7E

abbrev pub value_type : ValueType → Spellings
value_type kind = byte (type_code kind)

-- 00 public, 01 secret
abbrev pub label_code : Label → ℕ
label_code Public = 0x00
label_code Secret = 0x01

abbrev pub label : Label → Spellings
label one = byte (label_code one)

-- 00 and a variable, or 01 and a constant
abbrev pub operand_code : Operand → ℕ
operand_code (operands.Var x) = 0x00
operand_code (operands.Const n) = 0x01

abbrev pub operand_fields : Operand → Spellings
operand_fields (operands.Var x) = u32 x.0
operand_fields (operands.Const n) = u64 n

abbrev pub operand : Operand → Spellings
operand one = byte (operand_code one) ⨾ operand_fields one

-- the depth, 0 to 6, plus 8 where protected
abbrev pub mark : Mark → Spellings
mark one = given (IsMark one) (byte (one.depth + (if one.protect then 8 else 0)))

-- the operator's code in an image
abbrev pub operator : Op → Spellings
operator op = byte (image_code_of op)

-- the code of a load or a store in the binary format of WebAssembly
abbrev pub access : AccessKind → Spellings
access kind = byte (access_code kind)

-- the number of a kind of trap, 0 to 7
abbrev pub trap_kind : TrapKind → Spellings
trap_kind kind = byte (trap_code kind)

-- ---- the parts in front of the commands

-- value type, label, first value
abbrev pub global : GlobalDef → Spellings
global one = value_type one.kind ⨾ label one.label ⨾ u64 one.first

-- what is spelled of a row behind its number: 16 bytes
abbrev pub row : MemRow → Spellings
row one = given (length one.bytes ≡ 16) (exactly one.bytes)

-- how many rows, and each row: its number minus the former's minus 1 (the first: its number), 16 bytes
abbrev pub rows : List MemRow → Spellings
rows these = u32 (length these) ⨾ rising (λ one. one.number) row these

-- pages, reserve, label, rows
abbrev pub memory : MemoryDef → Spellings
memory one = u32 one.pages ⨾ u32 one.reserve ⨾ label one.label ⨾ rows one.rows

-- value type, label
abbrev pub param : ParamDef → Spellings
param one = value_type one.kind ⨾ label one.label

-- parameters, results, how many variables, how many commands
abbrev pub function : FunctionDef → Spellings
function one = vec param one.params ⨾ vec value_type one.results ⨾ u32 one.vars ⨾ u32 one.length

-- how many bytes, and these; how many may be any number below 2^64
abbrev pub text : List ℕ → Spellings
text these = u64 (length these) ⨾ exactly these

-- name, function
abbrev pub export : ExportDef → Spellings
export one = text one.name ⨾ u32 one.function

-- how many exports, which may be any number below 2^64, and each
abbrev pub exports : List ExportDef → Spellings
exports these = u64 (length these) ⨾ each export these

-- 00, function, index of the result; or 01, global
abbrev pub demand_code : Demand → ℕ
demand_code (demands.Result f index) = 0x00
demand_code (demands.Global x) = 0x01

abbrev pub demand_fields : Demand → Spellings
demand_fields (demands.Result f index) = u32 f ⨾ u32 index
demand_fields (demands.Global x) = u32 x

abbrev pub demand : Demand → Spellings
demand one = byte (demand_code one) ⨾ demand_fields one

-- what is spelled of a weight behind its position
abbrev pub weight : SiteWeight → Spellings
weight one = u64 one.weight

-- how many, and each: its position minus the former's minus 1 (the first: its position), then its weight
abbrev pub weights : List SiteWeight → Spellings
weights these = u32 (length these) ⨾ rising (λ one. one.at.0) weight these

-- ---- commands

-- the codes of the commands
abbrev pub command_code : Command → ℕ
command_code (Set m op to a b c) = 0x00
command_code (Load m kind space to offset address) = 0x01
command_code (Store kind space offset address value) = 0x02
command_code (Test cond one other) = 0x03
command_code (Jump to) = 0x04
command_code (Arg m callee index value) = 0x05
command_code (Call callee) = 0x06
command_code (Out m index value) = 0x07
command_code Ret = 0x08
command_code (Trap kind) = 0x09

-- their fields: of a Set the mark, the operator's code, the variable, and as many operands as the operator takes; of a Load
-- the mark, the load's code, memory, variable, offset, address; ..
abbrev pub fields : Command → Spellings
fields (Set m op to a b c) = (mark m ⨾ operator op ⨾ u32 to.0) ⨾ each operand (take (arity op) (a ∷ b ∷ c ∷ []))
fields (Load m kind space to offset address) = mark m ⨾ access kind ⨾ u32 space ⨾ u32 to.0 ⨾ u32 offset ⨾ operand address
fields (Store kind space offset address value) = access kind ⨾ u32 space ⨾ u32 offset ⨾ operand address ⨾ operand value
fields (Test cond one other) = operand cond ⨾ u32 one.0 ⨾ u32 other.0
fields (Jump to) = u32 to.0
fields (Arg m callee index value) = mark m ⨾ u32 callee ⨾ u32 index ⨾ operand value
fields (Call callee) = u32 callee
fields (Out m index value) = mark m ⨾ u32 index ⨾ operand value
fields Ret = nothing
fields (Trap kind) = trap_kind kind

-- a command: its code and its fields. A Load has the code of a load and a Store that of a store; what a Set doesn't spell is 0
abbrev pub command : Command → Spellings
command one = byte (command_code one) ⨾ given (IsCommand one) (fields one)

-- ---- the whole

-- the first four bytes
abbrev pub magic : List ℕ
magic = 0x42 ∷ 0x4C ∷ 0x49 ∷ 0x4D ∷ []

-- the version: 01 for a program without demands and weights, 02 for any other
abbrev pub version : List Demand → List SiteWeight → ℕ
version [] [] = 0x01
version [] (listed ∷ more) = 0x02
version (demanded ∷ more) listed = 0x02

-- what stands between the exports and the commands: in version 01 nothing, in version 02 demands and weights
abbrev pub additions : List Demand → List SiteWeight → Spellings
additions [] [] = nothing
additions [] (listed ∷ more) = vec demand [] ⨾ weights (listed ∷ more)
additions (demanded ∷ more) listed = vec demand (demanded ∷ more) ⨾ weights listed

-- the magic and the version
abbrev pub header : ℕ → Spellings
header number = exactly magic ⨾ byte number

-- globals, memories, functions, exports
abbrev pub definitions : Program → Spellings
definitions one = vec global one.globals ⨾ vec memory one.memories ⨾ vec function one.functions ⨾ exports one.exports

-- the parts of an image in their order; the commands are those of all functions, without positions 0 to 6
abbrev pub image : Program → Spellings
image one =
    header (version one.demands one.weights) ⨾ definitions one ⨾ additions one.demands one.weights ⨾ each command (drop 7 one.commands)

-- the bytes are the image of a program
pub record Image (program : Program) (bytes : List ℕ) : Type 0 where
  pub is_program : IsProgram program
  pub spelled : image program bytes
