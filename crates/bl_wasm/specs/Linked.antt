-- What a linked tree keeps (WebAssembly 1.0, sections 3.4 and 4.5.4).
use Rattle.std.specs.Prelude.{◌≡◌, ℕ, false, ◌*◌, ◌^◌, ◌<◌, ◌≤◌, ◌++◌, List, length, map, slice_get, sum_by, Option, Some, None, IfSome, option_and_then}
use Rattle.std.specs.List.{All}
use Rattle.bl_base.specs.Fits.{AreBytes, ArgumentFits}
use Rattle.bl_base.specs.Quantity.{limit_of}
use Rattle.bl_base.specs.declared.names.Label.TheVariants.{Secret}
use Rattle.bl_base.specs.declared.quantity.Quantity.TheVariants as quantity
use Rattle.bl_wasm.specs.Exports.{AreDistinct}
use Rattle.bl_wasm.specs.Typing.{Context, IsTyping, Spaces, integer}
use Rattle.bl_wasm.specs.Validity.{body_context, locals_of}
use Rattle.bl_wasm.specs.declared.instruction.Instr.{Instr}
use Rattle.bl_wasm.specs.declared.instruction.Instr.TheVariants.{Unreachable, Nop, Block, Loop, If, Else, End, Br, BrIf, BrTable, Return, Call, CallIndirect, Drop, Select, LocalGet, LocalSet, LocalTee, GlobalGet, GlobalSet, Load, Store, FloatAccess, MemorySize, MemoryGrow, I32Const, I64Const, F32Const, F64Const, Integer, Float}
use Rattle.bl_wasm.specs.declared.types.WasmType.{WasmType}
use Rattle.bl_wasm.specs.declared.types.FuncType.{FuncType}
use Rattle.bl_wasm.specs.declared.types.GlobalType.{GlobalType}
use Rattle.bl_wasm.specs.declared.linked.Signature.{Signature}
use Rattle.bl_wasm.specs.declared.linked.Function.{Function}
use Rattle.bl_wasm.specs.declared.linked.Global.{Global}
use Rattle.bl_wasm.specs.declared.linked.Memory.{Memory}
use Rattle.bl_wasm.specs.declared.linked.Tree.{Tree}

-- the type of the function of a number
abbrev pub type_of : Tree → ℕ → Option Signature
type_of tree number = option_and_then (λ function. slice_get tree.types function.type_index) (slice_get tree.functions number)

-- ---- the context of a body

-- a type of the tree, as bodies see it
abbrev pub function_type : Signature → FuncType
function_type type = record { params = map integer type.params; results = map integer type.results }

-- the type of a global, as bodies see it
abbrev pub global_type : Global → GlobalType
global_type global = record { kind = integer global.kind; mutable = global.mutable }

-- how many memories or tables a body sees
abbrev pub seen : Option ℕ → ℕ
seen None = 0
seen (Some number) = 1

-- the types of the locals of a function of that type, parameters first
abbrev pub all_locals : Signature → Function → List WasmType
all_locals type function = map integer type.params ++ locals_of function.code

-- what the bodies of a tree share that see that table and that memory
abbrev pub shared_in : Tree → Option ℕ → Option ℕ → Spaces
shared_in tree table memory = record {
  types = map function_type tree.types;
  functions = map (λ function. function.type_index) tree.functions;
  globals = map global_type tree.globals;
  tables = seen table;
  memories = seen memory;
}

-- the context of the body of a function of that type (section 3.1.1)
abbrev pub context : Tree → Signature → Function → Context
context tree type function = body_context (shared_in tree function.table function.memory) (function_type type) function.code

-- ---- the parts

-- immediates are numbers of their widths, since a number of a definition has no bound of its own
abbrev pub HasImmediates : Instr → Type 0
HasImmediates Unreachable = Unit {0}
HasImmediates Nop = Unit {0}
HasImmediates (Block type) = Unit {0}
HasImmediates (Loop type) = Unit {0}
HasImmediates (If type) = Unit {0}
HasImmediates Else = Unit {0}
HasImmediates End = Unit {0}
HasImmediates (Br l) = Unit {0}
HasImmediates (BrIf l) = Unit {0}
HasImmediates (BrTable default others) = Unit {0}
HasImmediates Return = Unit {0}
HasImmediates (Call function) = Unit {0}
HasImmediates (CallIndirect type) = Unit {0}
HasImmediates Drop = Unit {0}
HasImmediates Select = Unit {0}
HasImmediates (LocalGet x) = Unit {0}
HasImmediates (LocalSet x) = Unit {0}
HasImmediates (LocalTee x) = Unit {0}
HasImmediates (GlobalGet x) = Unit {0}
HasImmediates (GlobalSet x) = Unit {0}
HasImmediates (Load kind argument) = argument.offset < 2 ^ 32
HasImmediates (Store kind argument) = argument.offset < 2 ^ 32
HasImmediates (FloatAccess kind argument) = Unit {0}
HasImmediates MemorySize = Unit {0}
HasImmediates MemoryGrow = Unit {0}
HasImmediates (I32Const n) = n < 2 ^ 32
HasImmediates (I64Const n) = n < 2 ^ 64
HasImmediates (F32Const bits) = Unit {0}
HasImmediates (F64Const bits) = Unit {0}
HasImmediates (Integer op) = Unit {0}
HasImmediates (Float op) = Unit {0}

-- a function of the tree
pub record IsFunction (tree : Tree) (function : Function) : Type 0 where
  -- its type exists
  pub type : Signature
  pub exists : slice_get tree.types function.type_index ≡ Some type
  -- its body has a typing
  pub places : List (List WasmType)
  pub typing : IsTyping (context tree type function) function.code.items places
  pub immediates : All HasImmediates function.code.items
  -- each parameter has one label
  pub labels : length function.labels ≡ length type.params
  -- and each result is demanded public, or isn't
  pub demanded : length function.demanded ≡ length type.results
  -- parameters and locals together
  pub room : length (all_locals type function) ≤ limit_of quantity.Locals
  pub memory : IfSome function.memory (λ number. number < length tree.memories)
  pub table : IfSome function.table (λ number. number < length tree.tables)

-- a memory of the tree: its first pages with their bytes, and its reserve
pub record IsMemory (memory : Memory) : Type 0 where
  pub first : memory.pages ≤ memory.reserve
  pub most : memory.reserve ≤ limit_of quantity.Memory
  pub size : length memory.bytes ≡ memory.pages * 65536
  pub bytes : AreBytes memory.bytes

-- a slot is empty, or its function exists
abbrev pub IsSlot : Tree → Option ℕ → Type 0
IsSlot tree slot = IfSome slot (λ function. function < length tree.functions)

-- ---- the whole

pub record IsLinked (tree : Tree) : Type 0 where
  -- no type has too many results
  pub types : All (λ type. length type.results ≤ limit_of quantity.Results) tree.types
  pub functions : All (IsFunction tree) tree.functions
  pub globals : All (λ global. ArgumentFits global.kind global.initial) tree.globals
  -- no global is both declared secret and demanded public
  pub labels : All (λ global. global.label ≡ Secret → global.demanded ≡ false) tree.globals
  pub memories : All IsMemory tree.memories
  pub tables : All (All (IsSlot tree)) tree.tables
  -- exported functions exist, by names of their own
  pub exports : All (λ pair. pair.1 < length tree.functions) tree.exports
  pub distinct : AreDistinct tree.exports
  -- each of the modules has few enough functions, and at most one memory
  pub function_count : length tree.functions ≤ limit_of quantity.Modules * limit_of quantity.Functions
  pub memory_count : length tree.memories ≤ limit_of quantity.Modules
  pub global_count : length tree.globals < 2 ^ 29
  -- all reserves together
  pub reserves : sum_by (λ memory. memory.reserve) tree.memories ≤ limit_of quantity.Reserve
