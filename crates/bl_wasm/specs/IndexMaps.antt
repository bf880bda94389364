-- Items whose indices are numbers of other spaces (WebAssembly 1.0, sections 2.5.1 and 4.5.4).
use Rattle.std.specs.Prelude.{◌≡◌, ℕ, ◌≤◌, slice_get, Some}
use Rattle.bl_wasm.specs.Typing.{Spaces}
use Rattle.bl_wasm.specs.declared.instruction.Instr.{Instr}
use Rattle.bl_wasm.specs.declared.instruction.Instr.TheVariants.{Unreachable, Nop, Block, Loop, If, Else, End, Br, BrIf, BrTable, Return, Call, CallIndirect, Drop, Select, LocalGet, LocalSet, LocalTee, GlobalGet, GlobalSet, Load, Store, FloatAccess, MemorySize, MemoryGrow, I32Const, I64Const, F32Const, F64Const, Integer, Float}
use Rattle.bl_wasm.specs.declared.types.BlockType.{BlockType}
use Rattle.bl_wasm.specs.declared.types.BlockType.TheVariants.{Empty, Value, Index}
use Rattle.bl_wasm.specs.declared.types.FuncType.{FuncType}
use Rattle.bl_wasm.specs.declared.types.GlobalType.{GlobalType}

-- new names of types, functions and globals, by their indices
pub record Names : Type 0 where
  pub type : ℕ → ℕ
  pub function : ℕ → ℕ
  pub global : ℕ → ℕ

-- a block type by the new names
abbrev pub renamed_block_type : Names → BlockType → BlockType
renamed_block_type names Empty = Empty
renamed_block_type names (Value type) = Value type
renamed_block_type names (Index index) = Index (names.type index)

-- an item by the new names
abbrev pub renamed : Names → Instr → Instr
renamed names Unreachable = Unreachable
renamed names Nop = Nop
renamed names (Block type) = Block (renamed_block_type names type)
renamed names (Loop type) = Loop (renamed_block_type names type)
renamed names (If type) = If (renamed_block_type names type)
renamed names Else = Else
renamed names End = End
renamed names (Br l) = Br l
renamed names (BrIf l) = BrIf l
renamed names (BrTable default others) = BrTable default others
renamed names Return = Return
renamed names (Call function) = Call (names.function function)
renamed names (CallIndirect type) = CallIndirect (names.type type)
renamed names Drop = Drop
renamed names Select = Select
renamed names (LocalGet x) = LocalGet x
renamed names (LocalSet x) = LocalSet x
renamed names (LocalTee x) = LocalTee x
renamed names (GlobalGet global) = GlobalGet (names.global global)
renamed names (GlobalSet global) = GlobalSet (names.global global)
renamed names (Load kind argument) = Load kind argument
renamed names (Store kind argument) = Store kind argument
renamed names (FloatAccess kind argument) = FloatAccess kind argument
renamed names MemorySize = MemorySize
renamed names MemoryGrow = MemoryGrow
renamed names (I32Const n) = I32Const n
renamed names (I64Const n) = I64Const n
renamed names (F32Const bits) = F32Const bits
renamed names (F64Const bits) = F64Const bits
renamed names (Integer op) = Integer op
renamed names (Float op) = Float op

-- a function of those spaces has that type
abbrev pub IsOfType : Spaces → ℕ → FuncType → Type 0
IsOfType spaces function type =
    (index : ℕ) × (slice_get spaces.functions function ≡ Some index) × (slice_get spaces.types index ≡ Some type)

-- the new names name there what the old ones name here, and there is a table or a memory there where there is one here
pub record NameAlike (names : Names) (here there : Spaces) : Type 0 where
  pub types : (index : ℕ) (type : FuncType) → slice_get here.types index ≡ Some type → slice_get there.types (names.type index) ≡ Some type
  pub functions : (index : ℕ) (type : FuncType) → IsOfType here index type → IsOfType there (names.function index) type
  pub globals : (index : ℕ) (global : GlobalType) → slice_get here.globals index ≡ Some global
      → slice_get there.globals (names.global index) ≡ Some global
  pub tables : 1 ≤ here.tables → 1 ≤ there.tables
  pub memories : 1 ≤ here.memories → 1 ≤ there.memories
