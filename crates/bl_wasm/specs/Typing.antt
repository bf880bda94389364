-- The typing of a body (WebAssembly 1.0, section 3.3; block types with parameters and several results, version 2.0, section
-- 3.2.2): the types of the operands at each of its places.
use Rattle.std.specs.Prelude.{◌≡◌, ℕ, ◌≤◌, ◌^◌, ◌++◌, List, [], ◌∷◌, replicate, map, slice_get, IsTrue, IsFalse, Option, Some}
use Rattle.std.specs.List.{All}
use Rattle.bl_base.specs.declared.names.ValueType.{ValueType}
use Rattle.bl_base.specs.declared.names.ValueType.TheVariants as value
use Rattle.bl_ops.specs.Access.{is_load, access_type, width_of}
use Rattle.bl_ops.specs.OperatorTable.{row_of}
use Rattle.bl_ops.specs.declared.access.AccessKind.{AccessKind}
use Rattle.bl_ops.specs.declared.op.OpRow.{OpRow}
use Rattle.bl_wasm.specs.OpenConstructs.{Kind, of_block, of_loop, then_part, else_part}
use Rattle.bl_wasm.specs.declared.instruction.Instr.{Instr}
use Rattle.bl_wasm.specs.declared.instruction.Instr.TheVariants.{Unreachable, Nop, Block, Loop, If, Else, End, Br, BrIf, BrTable, Return, Call, CallIndirect, Drop, Select, LocalGet, LocalSet, LocalTee, GlobalGet, GlobalSet, Load, Store, FloatAccess, MemorySize, MemoryGrow, I32Const, I64Const, F32Const, F64Const, Integer, Float}
use Rattle.bl_wasm.specs.declared.instruction.MemoryArgument.{MemoryArgument}
use Rattle.bl_wasm.specs.declared.types.BlockType.{BlockType}
use Rattle.bl_wasm.specs.declared.types.BlockType.TheVariants.{Empty, Value, Index}
use Rattle.bl_wasm.specs.declared.types.WasmType.{WasmType}
use Rattle.bl_wasm.specs.declared.types.WasmType.TheVariants.{I32, I64}
use Rattle.bl_wasm.specs.declared.types.FuncType.{FuncType}
use Rattle.bl_wasm.specs.declared.types.GlobalType.{GlobalType}

-- ---- what a body stands in

-- the context of a body (section 3.1.1); each space of indices has what is imported first
pub record Context : Type 0 where
  pub types : List FuncType
  -- the functions' type indices
  pub functions : List ℕ
  pub globals : List GlobalType
  pub tables : ℕ
  pub memories : ℕ
  -- the locals, parameters first
  pub locals : List WasmType
  -- the results of the function
  pub results : List WasmType

-- the part of a context that all bodies of a module share
pub record Spaces : Type 0 where
  pub types : List FuncType
  -- the functions' type indices
  pub functions : List ℕ
  pub globals : List GlobalType
  pub tables : ℕ
  pub memories : ℕ

-- the context of a body with those locals, parameters first, and results
abbrev pub placed : Spaces → List WasmType → List WasmType → Context
placed spaces locals results = record {
  types = spaces.types;
  functions = spaces.functions;
  globals = spaces.globals;
  tables = spaces.tables;
  memories = spaces.memories;
  locals = locals;
  results = results;
}

-- the function of an index has that type
abbrev pub HasType : Context → ℕ → FuncType → Type 0
HasType c function type = (index : ℕ) × (slice_get c.functions function ≡ Some index) × (slice_get c.types index ≡ Some type)

-- the parameters and results of a block type, where it names a type that exists (version 2.0, section 3.2.2)
abbrev pub expanded : List FuncType → BlockType → Option FuncType
expanded types Empty = Some (record { params = []; results = [] })
expanded types (Value type) = Some (record { params = []; results = type ∷ [] })
expanded types (Index index) = slice_get types index

-- ---- the constructs that are open

-- a construct that is open at a place: its kind, its parameters and results, and the types of the operands below it
pub record Open : Type 0 where
  pub kind : Kind
  pub type : FuncType
  pub lower : List WasmType

-- an open construct by its fields
abbrev pub opened : Kind → FuncType → List WasmType → Open
opened kind type lower = record { kind = kind; type = type; lower = lower }

-- the types that a branch takes: to a loop its parameters, else the construct's results (section 3.3.5)
abbrev pub taken_by : Kind → FuncType → List WasmType
taken_by of_block type = type.results
taken_by of_loop type = type.params
taken_by then_part type = type.results
taken_by else_part type = type.results

-- the labels of a place, innermost first, each by what a branch to it takes; the outermost is the function's
abbrev pub labels : Context → List Open → List (List WasmType)
labels c open_ones = map (λ one. taken_by one.kind one.type) open_ones ++ c.results ∷ []

-- ---- the rules of section 3.3

-- a type of integers
abbrev pub integer : ValueType → WasmType
integer value.I32 = I32
integer value.I64 = I64

-- an item of type [inputs] -> [outputs]: it leaves the operands below as they are (section 3.3.6)
pub record Arrow (inputs outputs : List WasmType) (from to : List WasmType) : Type 0 where
  pub lower : List WasmType
  pub before : from ≡ lower ++ inputs
  pub behind : to ≡ lower ++ outputs

-- an item of type [any, inputs] -> any: what follows can't be reached
pub record Leaves (inputs from : List WasmType) : Type 0 where
  pub lower : List WasmType
  pub before : from ≡ lower ++ inputs

-- 2^alignment is at most the width (section 3.3.4)
abbrev pub IsAligned : AccessKind → MemoryArgument → Type 0
IsAligned kind argument = 2 ^ argument.alignment ≤ width_of kind

-- the items that neither open nor part nor close a construct, under labels: the operands' types before one and behind it
abbrev pub Plain : Context → List (List WasmType) → Instr → List WasmType → List WasmType → Type 0
-- control instructions (section 3.3.5)
Plain c ls Unreachable from to = Leaves [] from
Plain c ls Nop from to = Arrow [] [] from to
Plain c ls (Br l) from to = (types : List WasmType) × (slice_get ls l ≡ Some types) × Leaves types from
Plain c ls (BrIf l) from to = (types : List WasmType) × (slice_get ls l ≡ Some types) × Arrow (types ++ I32 ∷ []) types from to
Plain c ls (BrTable default others) from to =
    (types : List WasmType) × All (λ l. slice_get ls l ≡ Some types) (others ++ default ∷ []) × Leaves (types ++ I32 ∷ []) from
Plain c ls Return from to = Leaves c.results from
Plain c ls (Call function) from to = (type : FuncType) × HasType c function type × Arrow type.params type.results from to
Plain c ls (CallIndirect index) from to =
    (type : FuncType) × (slice_get c.types index ≡ Some type) × (1 ≤ c.tables) × Arrow (type.params ++ I32 ∷ []) type.results from to
-- parametric instructions (section 3.3.2)
Plain c ls Drop from to = (type : WasmType) × Arrow (type ∷ []) [] from to
Plain c ls Select from to = (type : WasmType) × Arrow (type ∷ type ∷ I32 ∷ []) (type ∷ []) from to
-- variable instructions (section 3.3.3)
Plain c ls (LocalGet x) from to = (type : WasmType) × (slice_get c.locals x ≡ Some type) × Arrow [] (type ∷ []) from to
Plain c ls (LocalSet x) from to = (type : WasmType) × (slice_get c.locals x ≡ Some type) × Arrow (type ∷ []) [] from to
Plain c ls (LocalTee x) from to = (type : WasmType) × (slice_get c.locals x ≡ Some type) × Arrow (type ∷ []) (type ∷ []) from to
Plain c ls (GlobalGet x) from to = (global : GlobalType) × (slice_get c.globals x ≡ Some global) × Arrow [] (global.kind ∷ []) from to
Plain c ls (GlobalSet x) from to =
    (global : GlobalType) × (slice_get c.globals x ≡ Some global) × IsTrue global.mutable × Arrow (global.kind ∷ []) [] from to
-- memory instructions (section 3.3.4)
Plain c ls (Load kind argument) from to =
    IsTrue (is_load kind) × IsAligned kind argument × (1 ≤ c.memories) × Arrow (I32 ∷ []) (integer (access_type kind) ∷ []) from to
Plain c ls (Store kind argument) from to =
    IsFalse (is_load kind) × IsAligned kind argument × (1 ≤ c.memories) × Arrow (I32 ∷ integer (access_type kind) ∷ []) [] from to
Plain c ls MemorySize from to = (1 ≤ c.memories) × Arrow [] (I32 ∷ []) from to
Plain c ls MemoryGrow from to = (1 ≤ c.memories) × Arrow (I32 ∷ []) (I32 ∷ []) from to
-- numeric instructions (section 3.3.1)
Plain c ls (I32Const n) from to = Arrow [] (I32 ∷ []) from to
Plain c ls (I64Const n) from to = Arrow [] (I64 ∷ []) from to
Plain c ls (Integer op) from to =
    (row : OpRow) × (row_of op ≡ Some row) × Arrow (replicate row.operands (integer row.from)) (integer row.to ∷ []) from to
-- floats aren't in this profile, and what opens, parts or closes a construct has a rule of its own
Plain c ls (FloatAccess kind argument) from to = ⊥
Plain c ls (F32Const bits) from to = ⊥
Plain c ls (F64Const bits) from to = ⊥
Plain c ls (Float op) from to = ⊥
Plain c ls (Block type) from to = ⊥
Plain c ls (Loop type) from to = ⊥
Plain c ls (If type) from to = ⊥
Plain c ls Else from to = ⊥
Plain c ls End from to = ⊥

-- a construct begins: of what is above the operands below, it takes its parameters inside
pub record Begins (c : Context) (kind : Kind) (immediate : BlockType) (above : List WasmType) (outer : List Open) (from : List WasmType)
    (inner : List Open) (to : List WasmType) : Type 0 where
  pub type : FuncType
  pub lower : List WasmType
  pub named : expanded c.types immediate ≡ Some type
  pub before : from ≡ lower ++ (type.params ++ above)
  pub inside : inner ≡ opened kind type lower ∷ outer
  pub behind : to ≡ type.params

-- the then part of an if ends, and its else part begins
pub record Parts (one : Open) (outer : List Open) (from : List WasmType) (inner : List Open) (to : List WasmType) : Type 0 where
  pub first : one.kind ≡ then_part
  pub before : from ≡ one.type.results
  pub inside : inner ≡ opened else_part one.type one.lower ∷ outer
  pub behind : to ≡ one.type.params

-- a construct ends; an if without `else` has equal parameters and results
pub record Ends (one : Open) (outer : List Open) (from : List WasmType) (inner : List Open) (to : List WasmType) : Type 0 where
  pub missing : one.kind ≡ then_part → one.type.params ≡ one.type.results
  pub before : from ≡ one.type.results
  pub inside : inner ≡ outer
  pub behind : to ≡ one.lower ++ one.type.results

-- a plain item stands
pub record Stays (c : Context) (item : Instr) (outer : List Open) (from : List WasmType) (inner : List Open)
    (to : List WasmType) : Type 0 where
  pub inside : inner ≡ outer
  pub rule : Plain c (labels c outer) item from to

-- the rule of an item: what is open and the operands' types before it, and both behind it
abbrev pub Rule : Context → Instr → List Open → List WasmType → List Open → List WasmType → Type 0
Rule c Unreachable outer from inner to = Stays c Unreachable outer from inner to
Rule c Nop outer from inner to = Stays c Nop outer from inner to
Rule c (Block immediate) outer from inner to = Begins c of_block immediate [] outer from inner to
Rule c (Loop immediate) outer from inner to = Begins c of_loop immediate [] outer from inner to
Rule c (If immediate) outer from inner to = Begins c then_part immediate (I32 ∷ []) outer from inner to
Rule c Else [] from inner to = ⊥
Rule c Else (one ∷ outer) from inner to = Parts one outer from inner to
Rule c End [] from inner to = ⊥
Rule c End (one ∷ outer) from inner to = Ends one outer from inner to
Rule c (Br l) outer from inner to = Stays c (Br l) outer from inner to
Rule c (BrIf l) outer from inner to = Stays c (BrIf l) outer from inner to
Rule c (BrTable default others) outer from inner to = Stays c (BrTable default others) outer from inner to
Rule c Return outer from inner to = Stays c Return outer from inner to
Rule c (Call function) outer from inner to = Stays c (Call function) outer from inner to
Rule c (CallIndirect type) outer from inner to = Stays c (CallIndirect type) outer from inner to
Rule c Drop outer from inner to = Stays c Drop outer from inner to
Rule c Select outer from inner to = Stays c Select outer from inner to
Rule c (LocalGet x) outer from inner to = Stays c (LocalGet x) outer from inner to
Rule c (LocalSet x) outer from inner to = Stays c (LocalSet x) outer from inner to
Rule c (LocalTee x) outer from inner to = Stays c (LocalTee x) outer from inner to
Rule c (GlobalGet x) outer from inner to = Stays c (GlobalGet x) outer from inner to
Rule c (GlobalSet x) outer from inner to = Stays c (GlobalSet x) outer from inner to
Rule c (Load kind argument) outer from inner to = Stays c (Load kind argument) outer from inner to
Rule c (Store kind argument) outer from inner to = Stays c (Store kind argument) outer from inner to
Rule c (FloatAccess kind argument) outer from inner to = Stays c (FloatAccess kind argument) outer from inner to
Rule c MemorySize outer from inner to = Stays c MemorySize outer from inner to
Rule c MemoryGrow outer from inner to = Stays c MemoryGrow outer from inner to
Rule c (I32Const n) outer from inner to = Stays c (I32Const n) outer from inner to
Rule c (I64Const n) outer from inner to = Stays c (I64Const n) outer from inner to
Rule c (F32Const bits) outer from inner to = Stays c (F32Const bits) outer from inner to
Rule c (F64Const bits) outer from inner to = Stays c (F64Const bits) outer from inner to
Rule c (Integer op) outer from inner to = Stays c (Integer op) outer from inner to
Rule c (Float op) outer from inner to = Stays c (Float op) outer from inner to

-- a typing of items inside constructs: a list of operands' types for each place, from before the first item to behind the
-- last one, each counted from the floor of the innermost construct
abbrev pub Types : Context → List Open → List Instr → List (List WasmType) → Type 0
Types c open_ones [] (last ∷ []) = (open_ones ≡ []) × (last ≡ c.results)
Types c open_ones (item ∷ items) (from ∷ to ∷ later) =
    (inner : List Open) × Rule c item open_ones from inner to × Types c inner items (to ∷ later)
Types c open_ones items places = ⊥

-- a typing of a body: it begins without operands
abbrev pub IsTyping : Context → List Instr → List (List WasmType) → Type 0
IsTyping c body places = (slice_get places 0 ≡ Some []) × Types c [] body places
