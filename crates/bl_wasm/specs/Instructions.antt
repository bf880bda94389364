-- Instructions in the binary format (WebAssembly 1.0, section 5.4). A body is a flat list in the tree: a block, loop or
-- if, its items and its `end` are items one after another, and the list is well nested.
use Rattle.std.specs.Prelude.{◌≡◌, ℕ, ◌++◌, List, [], ◌∷◌, IsTrue, IsFalse, Some}
use Rattle.bl_ops.specs.declared.op.Op.{Op}
use Rattle.bl_ops.specs.Access.{is_load, access_code}
use Rattle.bl_ops.specs.OperatorTable.{operator_code}
use Rattle.bl_wasm.specs.Codes.{IsFloatCode, float_access_code}
use Rattle.bl_wasm.specs.Types.{block_type}
use Rattle.bl_leb.specs.Grammar.{Spellings, ◌⨾◌, byte, given}
use Rattle.bl_wasm.specs.Values.{each, u32, int, f32, f64, vec}
use Rattle.bl_wasm.specs.declared.instruction.Instr.{Instr}
use Rattle.bl_wasm.specs.declared.instruction.Instr.TheVariants.{Unreachable, Nop, Block, Loop, If, Else, End, Br, BrIf, BrTable, Return, Call, CallIndirect, Drop, Select, LocalGet, LocalSet, LocalTee, GlobalGet, GlobalSet, Load, Store, FloatAccess, MemorySize, MemoryGrow, I32Const, I64Const, F32Const, F64Const, Integer, Float}
use Rattle.bl_wasm.specs.declared.instruction.MemoryArgument.{MemoryArgument}
use Rattle.bl_wasm.specs.declared.types.BlockType.{BlockType}

-- memarg (section 5.4.4)
abbrev pub memory_argument : MemoryArgument → Spellings
memory_argument m = u32 m.alignment ⨾ u32 m.offset

-- the code of an integer operator, where it has one (section 5.4.5)
abbrev pub integer : Op → Spellings
integer op bytes = (code : ℕ) × (operator_code op ≡ Some code) × byte code bytes

-- instr (section 5.4); of a block, loop or if, what stands before its items
abbrev pub instruction : Instr → Spellings
-- control instructions (section 5.4.1); the zero of call_indirect may be spelled as any u32
instruction Unreachable = byte 0x00
instruction Nop = byte 0x01
instruction (Block type) = byte 0x02 ⨾ block_type type
instruction (Loop type) = byte 0x03 ⨾ block_type type
instruction (If type) = byte 0x04 ⨾ block_type type
instruction Else = byte 0x05
instruction End = byte 0x0B
instruction (Br label) = byte 0x0C ⨾ u32 label
instruction (BrIf label) = byte 0x0D ⨾ u32 label
instruction (BrTable default labels) = byte 0x0E ⨾ vec u32 labels ⨾ u32 default
instruction Return = byte 0x0F
instruction (Call function) = byte 0x10 ⨾ u32 function
instruction (CallIndirect type) = byte 0x11 ⨾ u32 type ⨾ u32 0
-- parametric instructions (section 5.4.2)
instruction Drop = byte 0x1A
instruction Select = byte 0x1B
-- variable instructions (section 5.4.3)
instruction (LocalGet x) = byte 0x20 ⨾ u32 x
instruction (LocalSet x) = byte 0x21 ⨾ u32 x
instruction (LocalTee x) = byte 0x22 ⨾ u32 x
instruction (GlobalGet x) = byte 0x23 ⨾ u32 x
instruction (GlobalSet x) = byte 0x24 ⨾ u32 x
-- memory instructions (section 5.4.4)
instruction (Load kind argument) = given (IsTrue (is_load kind)) (byte (access_code kind) ⨾ memory_argument argument)
instruction (Store kind argument) = given (IsFalse (is_load kind)) (byte (access_code kind) ⨾ memory_argument argument)
instruction (FloatAccess kind argument) = byte (float_access_code kind) ⨾ memory_argument argument
instruction MemorySize = byte 0x3F ⨾ byte 0x00
instruction MemoryGrow = byte 0x40 ⨾ byte 0x00
-- numeric instructions (section 5.4.5)
instruction (I32Const n) = byte 0x41 ⨾ int 32 n
instruction (I64Const n) = byte 0x42 ⨾ int 64 n
instruction (F32Const bits) = byte 0x43 ⨾ f32 bits
instruction (F64Const bits) = byte 0x44 ⨾ f64 bits
instruction (Integer op) = integer op
instruction (Float op) = given (IsFloatCode op) (byte op)

-- an item that neither opens nor parts nor closes a construct
abbrev pub IsPlain : Instr → Type 0
IsPlain Unreachable = Unit {0}
IsPlain Nop = Unit {0}
IsPlain (Block type) = ⊥
IsPlain (Loop type) = ⊥
IsPlain (If type) = ⊥
IsPlain Else = ⊥
IsPlain End = ⊥
IsPlain (Br l) = Unit {0}
IsPlain (BrIf l) = Unit {0}
IsPlain (BrTable default others) = Unit {0}
IsPlain Return = Unit {0}
IsPlain (Call function) = Unit {0}
IsPlain (CallIndirect type) = Unit {0}
IsPlain Drop = Unit {0}
IsPlain Select = Unit {0}
IsPlain (LocalGet x) = Unit {0}
IsPlain (LocalSet x) = Unit {0}
IsPlain (LocalTee x) = Unit {0}
IsPlain (GlobalGet x) = Unit {0}
IsPlain (GlobalSet x) = Unit {0}
IsPlain (Load kind argument) = Unit {0}
IsPlain (Store kind argument) = Unit {0}
IsPlain (FloatAccess kind argument) = Unit {0}
IsPlain MemorySize = Unit {0}
IsPlain MemoryGrow = Unit {0}
IsPlain (I32Const n) = Unit {0}
IsPlain (I64Const n) = Unit {0}
IsPlain (F32Const bits) = Unit {0}
IsPlain (F64Const bits) = Unit {0}
IsPlain (Integer op) = Unit {0}
IsPlain (Float op) = Unit {0}

-- (in:instr)*: items that nest (section 5.4.1)
pub data Nests : List Instr → Type 0 where
  none : Nests []
  plain : (item : Instr) (rest : List Instr) → IsPlain item → Nests rest → Nests (item ∷ rest)
  -- block bt in* end
  block : (type : BlockType) (inside rest : List Instr) → Nests inside → Nests rest → Nests (Block type ∷ inside ++ End ∷ rest)
  -- loop bt in* end
  loop : (type : BlockType) (inside rest : List Instr) → Nests inside → Nests rest → Nests (Loop type ∷ inside ++ End ∷ rest)
  -- if bt in* end
  if_then : (type : BlockType) (inside rest : List Instr) → Nests inside → Nests rest → Nests (If type ∷ inside ++ End ∷ rest)
  -- if bt in* else in* end
  if_else : (type : BlockType) (first second rest : List Instr) → Nests first → Nests second → Nests rest
      → Nests (If type ∷ first ++ Else ∷ second ++ End ∷ rest)

-- expr: items that nest, and then an `end` (section 5.4.6)
abbrev pub expression : List Instr → Spellings
expression items = given (Nests items) (each instruction items ⨾ byte 0x0B)
