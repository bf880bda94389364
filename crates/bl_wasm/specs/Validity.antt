-- Valid modules (WebAssembly 1.0, section 3.4): each function that the module defines has a typing, and the module keeps
-- the rules on its other parts.
use Rattle.std.specs.Prelude.{◌≡◌, ℕ, ◌<◌, ◌≤◌, ◌++◌, List, [], ◌∷◌, length, replicate, map, filter_map, flat_map, slice_get, false, Option, Some, None, IfSome}
use Rattle.std.specs.List.{All}
use Rattle.bl_wasm.specs.Typing.{Context, IsTyping, Spaces, placed}
use Rattle.bl_wasm.specs.declared.instruction.Instr.{Instr}
use Rattle.bl_wasm.specs.declared.instruction.Instr.TheVariants.{Unreachable, Nop, Block, Loop, If, Else, End, Br, BrIf, BrTable, Return, Call, CallIndirect, Drop, Select, LocalGet, LocalSet, LocalTee, GlobalGet, GlobalSet, Load, Store, FloatAccess, MemorySize, MemoryGrow, I32Const, I64Const, F32Const, F64Const, Integer, Float}
use Rattle.bl_wasm.specs.declared.types.WasmType.{WasmType}
use Rattle.bl_wasm.specs.declared.types.BlockType.{BlockType}
use Rattle.bl_wasm.specs.declared.types.BlockType.TheVariants.{Empty, Value, Index}
use Rattle.bl_wasm.specs.declared.types.WasmType.TheVariants.{I32, I64, F32, F64}
use Rattle.bl_wasm.specs.declared.types.FuncType.{FuncType}
use Rattle.bl_wasm.specs.declared.types.GlobalType.{GlobalType}
use Rattle.bl_wasm.specs.declared.types.Limits.{Limits}
use Rattle.bl_wasm.specs.declared.module.ImportKind.{ImportKind}
use Rattle.bl_wasm.specs.declared.module.ImportKind.TheVariants as import
use Rattle.bl_wasm.specs.declared.module.Export.{Export}
use Rattle.bl_wasm.specs.declared.module.ExportKind.{ExportKind}
use Rattle.bl_wasm.specs.declared.module.ExportKind.TheVariants as export
use Rattle.bl_wasm.specs.declared.module.ElementSegment.{ElementSegment}
use Rattle.bl_wasm.specs.declared.module.DataSegment.{DataSegment}
use Rattle.bl_wasm.specs.declared.module.Code.{Code}
use Rattle.bl_wasm.specs.declared.module.Module.{Module}

-- ---- the spaces of indices: what is imported, and then what is defined (section 2.5.1)

-- the type index of an imported function
abbrev pub function_of : ImportKind → Option ℕ
function_of (import.Function index) = Some index
function_of other = None

-- the limits of an imported table
abbrev pub table_of : ImportKind → Option Limits
table_of (import.Table limits) = Some limits
table_of other = None

-- the limits of an imported memory
abbrev pub memory_of : ImportKind → Option Limits
memory_of (import.Memory limits) = Some limits
memory_of other = None

-- the type of an imported global
abbrev pub global_of : ImportKind → Option GlobalType
global_of (import.Global type) = Some type
global_of other = None

-- what a module imports of one kind
abbrev pub imported : {A : Type 0} → (ImportKind → Option A) → Module → List A
imported kind tree = filter_map (λ entry. kind entry.kind) tree.imports

-- the functions' type indices
abbrev pub functions_of : Module → List ℕ
functions_of tree = imported function_of tree ++ tree.functions

abbrev pub tables_of : Module → List Limits
tables_of tree = imported table_of tree ++ tree.tables

abbrev pub memories_of : Module → List Limits
memories_of tree = imported memory_of tree ++ tree.memories

abbrev pub globals_of : Module → List GlobalType
globals_of tree = imported global_of tree ++ map (λ global. global.kind) tree.globals

-- ---- functions (section 3.4.1)

-- the types of the locals that aren't parameters, one for each local
abbrev pub locals_of : Code → List WasmType
locals_of code = flat_map (λ run. replicate run.count run.kind) code.locals

-- the context of the body of a function of that type, with its code
abbrev pub body_context : Spaces → FuncType → Code → Context
body_context spaces type code = placed spaces (type.params ++ locals_of code) type.results

-- what all bodies of a module share
abbrev pub shared_by : Module → Spaces
shared_by tree = record {
  types = tree.types;
  functions = functions_of tree;
  globals = globals_of tree;
  tables = length (tables_of tree);
  memories = length (memories_of tree);
}

-- the context of a body of that type
abbrev pub context_of : Module → FuncType → Code → Context
context_of tree type code = body_context (shared_by tree) type code

-- a function that the module defines, by its number among those, has a typing
pub record HasTyping (tree : Module) (number : ℕ) : Type 0 where
  pub index : ℕ
  pub type : FuncType
  pub code : Code
  pub places : List (List WasmType)
  -- its type exists
  pub named : slice_get tree.functions number ≡ Some index
  pub exists : slice_get tree.types index ≡ Some type
  pub body : slice_get tree.bodies number ≡ Some code
  pub typing : IsTyping (context_of tree type code) code.items places

-- ---- the module's other rules

-- a type that this profile has
abbrev pub IsInteger : WasmType → Type 0
IsInteger I32 = Unit {0}
IsInteger I64 = Unit {0}
IsInteger F32 = ⊥
IsInteger F64 = ⊥

-- the value type that a block type is, where it is one, is of integers; the types that it may name are tested as such
abbrev pub HasIntegerType : BlockType → Type 0
HasIntegerType Empty = Unit {0}
HasIntegerType (Value type) = IsInteger type
HasIntegerType (Index index) = Unit {0}

-- a block type of this profile
abbrev pub HasIntegers : Instr → Type 0
HasIntegers Unreachable = Unit {0}
HasIntegers Nop = Unit {0}
HasIntegers (Block type) = HasIntegerType type
HasIntegers (Loop type) = HasIntegerType type
HasIntegers (If type) = HasIntegerType type
HasIntegers Else = Unit {0}
HasIntegers End = Unit {0}
HasIntegers (Br l) = Unit {0}
HasIntegers (BrIf l) = Unit {0}
HasIntegers (BrTable default others) = Unit {0}
HasIntegers Return = Unit {0}
HasIntegers (Call function) = Unit {0}
HasIntegers (CallIndirect type) = Unit {0}
HasIntegers Drop = Unit {0}
HasIntegers Select = Unit {0}
HasIntegers (LocalGet x) = Unit {0}
HasIntegers (LocalSet x) = Unit {0}
HasIntegers (LocalTee x) = Unit {0}
HasIntegers (GlobalGet x) = Unit {0}
HasIntegers (GlobalSet x) = Unit {0}
HasIntegers (Load kind argument) = Unit {0}
HasIntegers (Store kind argument) = Unit {0}
HasIntegers (FloatAccess kind argument) = Unit {0}
HasIntegers MemorySize = Unit {0}
HasIntegers MemoryGrow = Unit {0}
HasIntegers (I32Const n) = Unit {0}
HasIntegers (I64Const n) = Unit {0}
HasIntegers (F32Const bits) = Unit {0}
HasIntegers (F64Const bits) = Unit {0}
HasIntegers (Integer op) = Unit {0}
HasIntegers (Float op) = Unit {0}

-- a type of functions is of integers (section 3.2.2)
pub record IsFunctionType (type : FuncType) : Type 0 where
  pub params : All IsInteger type.params
  pub results : All IsInteger type.results

-- locals and block types are integers
pub record IsCode (code : Code) : Type 0 where
  pub locals : All (λ run. IsInteger run.kind) code.locals
  pub items : All HasIntegers code.items

-- limits: the minimum is at most the maximum (section 3.2.1)
abbrev pub IsLimits : Limits → Type 0
IsLimits these = IfSome these.max (λ max. these.min ≤ max)

-- limits of a memory: both are at most 65,536 pages (section 3.2.4)
pub record IsMemory (these : Limits) : Type 0 where
  pub limits : IsLimits these
  pub min : these.min ≤ 65536
  pub max : IfSome these.max (λ max. max ≤ 65536)

-- the initial value of a global: one constant of its type, or an imported immutable global of it (section 3.3.7)
abbrev pub IsInitial : List GlobalType → WasmType → List Instr → Type 0
IsInitial imports I32 (I32Const n ∷ []) = Unit {0}
IsInitial imports I64 (I64Const n ∷ []) = Unit {0}
IsInitial imports kind (GlobalGet x ∷ []) = slice_get imports x ≡ Some (record { kind = kind; mutable = false })
IsInitial imports kind items = ⊥

-- the offset of a segment: one constant i32, or an immutable i32 global, imported or not
abbrev pub IsOffset : List GlobalType → List Instr → Type 0
IsOffset globals (I32Const n ∷ []) = Unit {0}
IsOffset globals (GlobalGet x ∷ []) = slice_get globals x ≡ Some (record { kind = I32; mutable = false })
IsOffset globals items = ⊥

-- first entries of a table (section 3.4.5)
pub record IsElement (tree : Module) (segment : ElementSegment) : Type 0 where
  pub table : segment.table < length (tables_of tree)
  pub offset : IsOffset (globals_of tree) segment.offset
  pub functions : All (λ function. function < length (functions_of tree)) segment.functions

-- first contents of a memory (section 3.4.6)
pub record IsData (tree : Module) (segment : DataSegment) : Type 0 where
  pub memory : segment.memory < length (memories_of tree)
  pub offset : IsOffset (globals_of tree) segment.offset

-- the size of the space that an export names
abbrev pub space_of : Module → ExportKind → ℕ
space_of tree export.Function = length (functions_of tree)
space_of tree export.Table = length (tables_of tree)
space_of tree export.Memory = length (memories_of tree)
space_of tree export.Global = length (globals_of tree)

-- no two exports have one name (section 3.4.10)
abbrev pub AreDistinct : List Export → Type 0
AreDistinct exports =
    (i j : ℕ) (a b : Export) → slice_get exports i ≡ Some a → slice_get exports j ≡ Some b → a.name ≡ b.name → i ≡ j

-- the rules on everything but the typing of bodies (section 3.4.10)
pub record IsValid (tree : Module) : Type 0 where
  pub types : All IsFunctionType tree.types
  -- type indices exist
  pub functions : All (λ index. index < length tree.types) (functions_of tree)
  -- each function has its code
  pub counts : length tree.functions ≡ length tree.bodies
  pub codes : All IsCode tree.bodies
  -- at most one table and one memory, imports included
  pub one_table : length (tables_of tree) ≤ 1
  pub one_memory : length (memories_of tree) ≤ 1
  pub tables : All IsLimits (tables_of tree)
  pub memories : All IsMemory (memories_of tree)
  pub kinds : All (λ type. IsInteger type.kind) (globals_of tree)
  pub initials : All (λ global. IsInitial (imported global_of tree) global.kind.kind global.initial) tree.globals
  pub elements : All (IsElement tree) tree.elements
  pub segments : All (IsData tree) tree.segments
  -- exports exist, by names of their own
  pub exports : All (λ entry. entry.index < space_of tree entry.kind) tree.exports
  pub distinct : AreDistinct tree.exports
  -- this profile has no start function
  pub start : tree.start ≡ None

-- each function that the module defines has a typing, and its other rules hold
pub record Typed (tree : Module) : Type 0 where
  pub functions : (number : ℕ) → number < length tree.functions → HasTyping tree number
  pub rules : IsValid tree
