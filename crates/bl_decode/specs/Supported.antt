-- What is supported of the grammar: integers alone, and no start function.
use Rattle.std.specs.Prelude.{◌≡◌, None, All}
use Rattle.bl_wasm.specs.Validity.{IsInteger, HasIntegerType}
use Rattle.bl_wasm.specs.declared.types.FuncType.{FuncType}
use Rattle.bl_wasm.specs.declared.instruction.Instr.{Instr}
use Rattle.bl_wasm.specs.declared.instruction.Instr.TheVariants.{Unreachable, Nop, Block, Loop, If, Else, End, Br, BrIf, BrTable, Return, Call, CallIndirect, Drop, Select, LocalGet, LocalSet, LocalTee, GlobalGet, GlobalSet, Load, Store, FloatAccess, MemorySize, MemoryGrow, I32Const, I64Const, F32Const, F64Const, Integer, Float}
use Rattle.bl_wasm.specs.declared.module.Module.{Module}
use Rattle.bl_wasm.specs.declared.module.ImportKind.{ImportKind}
use Rattle.bl_wasm.specs.declared.module.ImportKind.TheVariants as import
use Rattle.bl_wasm.specs.declared.module.Code.{Code}

-- a function type of integers (section 2.3.3)
unfoldable pub IsIntegerFunction : FuncType → Type 0
IsIntegerFunction type = All IsInteger type.params × All IsInteger type.results

-- an import that is no global of floats (section 2.5.11)
abbrev pub IsIntegerImport : ImportKind → Type 0
IsIntegerImport (import.Function type) = Unit {0}
IsIntegerImport (import.Table type) = Unit {0}
IsIntegerImport (import.Memory type) = Unit {0}
IsIntegerImport (import.Global type) = IsInteger type.kind

-- an instruction that is none of floats, and names no type of floats (section 2.4)
abbrev pub IsIntegerInstr : Instr → Type 0
IsIntegerInstr Unreachable = Unit {0}
IsIntegerInstr Nop = Unit {0}
IsIntegerInstr (Block type) = HasIntegerType type
IsIntegerInstr (Loop type) = HasIntegerType type
IsIntegerInstr (If type) = HasIntegerType type
IsIntegerInstr Else = Unit {0}
IsIntegerInstr End = Unit {0}
IsIntegerInstr (Br l) = Unit {0}
IsIntegerInstr (BrIf l) = Unit {0}
IsIntegerInstr (BrTable default others) = Unit {0}
IsIntegerInstr Return = Unit {0}
IsIntegerInstr (Call function) = Unit {0}
IsIntegerInstr (CallIndirect type) = Unit {0}
IsIntegerInstr Drop = Unit {0}
IsIntegerInstr Select = Unit {0}
IsIntegerInstr (LocalGet x) = Unit {0}
IsIntegerInstr (LocalSet x) = Unit {0}
IsIntegerInstr (LocalTee x) = Unit {0}
IsIntegerInstr (GlobalGet x) = Unit {0}
IsIntegerInstr (GlobalSet x) = Unit {0}
IsIntegerInstr (Load kind argument) = Unit {0}
IsIntegerInstr (Store kind argument) = Unit {0}
IsIntegerInstr (FloatAccess kind argument) = ⊥
IsIntegerInstr MemorySize = Unit {0}
IsIntegerInstr MemoryGrow = Unit {0}
IsIntegerInstr (I32Const n) = Unit {0}
IsIntegerInstr (I64Const n) = Unit {0}
IsIntegerInstr (F32Const bits) = ⊥
IsIntegerInstr (F64Const bits) = ⊥
IsIntegerInstr (Integer op) = Unit {0}
IsIntegerInstr (Float op) = ⊥

-- the code of a function whose locals are integers, those of empty runs too (section 2.5.3)
unfoldable pub IsIntegerCode : Code → Type 0
IsIntegerCode code = All (λ run. IsInteger run.kind) code.locals × All IsIntegerInstr code.items

-- a module that is supported
pub record IsSupported (tree : Module) : Type 0 where
  pub types : All IsIntegerFunction tree.types
  pub imports : All (λ entry. IsIntegerImport entry.kind) tree.imports
  pub globals : All (λ global. IsInteger global.kind.kind × All IsIntegerInstr global.initial) tree.globals
  pub start : tree.start ≡ None
  pub elements : All (λ segment. All IsIntegerInstr segment.offset) tree.elements
  pub bodies : All IsIntegerCode tree.bodies
  pub segments : All (λ segment. All IsIntegerInstr segment.offset) tree.segments
