-- The limits of a module, and the first one that it exceeds.
use Rattle.std.specs.Prelude.{ℕ, zero, suc, ◌+◌, if◌then◌else◌, nat_lt, max, List, [], ◌∷◌, length, Option, Some, None, sum_by, slice_get}
use Rattle.std.specs.List.{zip}
use Rattle.std.specs.Option.{option_or}
use Rattle.bl_base.specs.Quantity.{limit_of}
use Rattle.bl_base.specs.declared.quantity.Quantity.{Quantity}
use Rattle.bl_base.specs.declared.quantity.Quantity.TheVariants as quantity
use Rattle.bl_wasm.specs.OpenConstructs.{depth_at}
use Rattle.bl_wasm.specs.Validity.{functions_of}
use Rattle.bl_wasm.specs.declared.types.FuncType.{FuncType}
use Rattle.bl_wasm.specs.declared.instruction.Instr.{Instr}
use Rattle.bl_wasm.specs.declared.instruction.Instr.TheVariants.{Unreachable, Nop, Block, Loop, If, Else, End, Br, BrIf, BrTable, Return, Call, CallIndirect, Drop, Select, LocalGet, LocalSet, LocalTee, GlobalGet, GlobalSet, Load, Store, FloatAccess, MemorySize, MemoryGrow, I32Const, I64Const, F32Const, F64Const, Integer, Float}
use Rattle.bl_wasm.specs.declared.module.Module.{Module}
use Rattle.bl_wasm.specs.declared.module.Code.{Code}

-- a quantity that is exceeded, and its value
abbrev pub Excess : Type 0
Excess = Quantity × ℕ

-- a value above a quantity's number
abbrev pub above : Quantity → ℕ → Option Excess
above which value = if nat_lt (limit_of which) value then Some (which, value) else None

-- what is found at the first element where something is found
abbrev pub first_in : {A : Type 0} → (A → Option Excess) → List A → Option Excess
first_in found [] = None
first_in found (x ∷ xs) = option_or (found x) (first_in found xs)

-- the parameters of a type; none where there is no such type
abbrev pub param_count : Option FuncType → ℕ
param_count None = 0
param_count (Some type) = length type.params

-- the locals of a function of that type index and with that code, with its parameters
abbrev pub local_count : List FuncType → ℕ × Code → ℕ
local_count types function = param_count (slice_get types function.0) + sum_by (λ run. run.count) function.1.locals

-- the greatest number of constructs that are open at one of the first places of a body
abbrev pub greatest_depth : List Instr → ℕ → ℕ
greatest_depth items zero = 0
greatest_depth items (suc places) = max (greatest_depth items places) (depth_at items places)

-- the greatest number of constructs that are open at one place of a body
abbrev pub nesting_of : List Instr → ℕ
nesting_of items = greatest_depth items (length items + 1)

-- a br_table with too many targets beside its default
abbrev pub targets_above : Instr → Option Excess
targets_above Unreachable = None
targets_above Nop = None
targets_above (Block type) = None
targets_above (Loop type) = None
targets_above (If type) = None
targets_above Else = None
targets_above End = None
targets_above (Br l) = None
targets_above (BrIf l) = None
targets_above (BrTable default others) = above quantity.Targets (length others)
targets_above Return = None
targets_above (Call function) = None
targets_above (CallIndirect type) = None
targets_above Drop = None
targets_above Select = None
targets_above (LocalGet x) = None
targets_above (LocalSet x) = None
targets_above (LocalTee x) = None
targets_above (GlobalGet x) = None
targets_above (GlobalSet x) = None
targets_above (Load kind argument) = None
targets_above (Store kind argument) = None
targets_above (FloatAccess kind argument) = None
targets_above MemorySize = None
targets_above MemoryGrow = None
targets_above (I32Const n) = None
targets_above (I64Const n) = None
targets_above (F32Const bits) = None
targets_above (F64Const bits) = None
targets_above (Integer op) = None
targets_above (Float op) = None

-- the first quantity that a function exceeds: its locals, its nesting, and the targets of its br_tables
abbrev pub function_excess : List FuncType → ℕ × Code → Option Excess
function_excess types function =
    option_or (above quantity.Locals (local_count types function))
    (option_or (above quantity.Nesting (nesting_of function.1.items))
    (first_in targets_above function.1.items))

-- the first quantity that a module exceeds: its functions, imports included, then the results of a type, the slots of a
-- table and the pages of a memory, and then the quantities of each function in turn
abbrev pub first_excess : Module → Option Excess
first_excess tree =
    option_or (above quantity.Functions (length (functions_of tree)))
    (option_or (first_in (λ type. above quantity.Results (length type.results)) tree.types)
    (option_or (first_in (λ table. above quantity.Table table.min) tree.tables)
    (option_or (first_in (λ memory. above quantity.Memory memory.min) tree.memories)
    (first_in (function_excess tree.types) (zip tree.functions tree.bodies)))))
