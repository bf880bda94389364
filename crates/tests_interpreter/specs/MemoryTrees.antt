-- A linked tree with one memory: a function that stores and loads, and one that grows the memory.
use Rattle.std.specs.Prelude.{ℕ, ◌*◌, Bool, false, List, [], ◌∷◌, replicate, Some, None}
use Rattle.bl_base.specs.declared.names.Label.TheVariants.{Public}
use Rattle.bl_base.specs.declared.names.Label.{Label}
use Rattle.bl_base.specs.declared.names.ValueType.{ValueType}
use Rattle.bl_base.specs.declared.names.ValueType.TheVariants.{I32}
use Rattle.bl_ops.specs.Access.{access_type}
use Rattle.bl_ops.specs.declared.access.AccessKind.{AccessKind}
use Rattle.bl_wasm.specs.declared.instruction.Instr.{Instr}
use Rattle.bl_wasm.specs.declared.instruction.Instr.TheVariants.{LocalGet, Load, Store, MemorySize, MemoryGrow}
use Rattle.bl_wasm.specs.declared.instruction.MemoryArgument.{MemoryArgument}
use Rattle.bl_wasm.specs.declared.linked.Function.{Function}
use Rattle.bl_wasm.specs.declared.linked.Memory.{Memory}
use Rattle.bl_wasm.specs.declared.linked.Signature.{Signature}
use Rattle.bl_wasm.specs.declared.linked.Tree.{Tree}

abbrev pub at_offset : ℕ → MemoryArgument
at_offset offset = record { alignment = 0; offset = offset }

-- stores the second argument at the first one, and loads from there
abbrev pub accessing : AccessKind → AccessKind → ℕ → List Instr
accessing store load offset = LocalGet 0 ∷ LocalGet 1 ∷ Store store (at_offset offset) ∷ LocalGet 0 ∷ Load load (at_offset offset) ∷ []

-- grows by the argument, and tells the size
abbrev pub growing : List Instr
growing = LocalGet 0 ∷ MemoryGrow ∷ MemorySize ∷ []

abbrev pub accessing_type : AccessKind → AccessKind → Signature
accessing_type store load = record { params = I32 ∷ access_type store ∷ []; results = access_type load ∷ [] }

abbrev pub growing_type : Signature
growing_type = record { params = I32 ∷ []; results = I32 ∷ I32 ∷ [] }

-- a function of a type with these items, over memory 0
abbrev pub over_memory : ℕ → List Label → List Bool → List Instr → Function
over_memory type labels demanded items = record {
  type_index = type;
  labels = labels;
  demanded = demanded;
  code = record { locals = []; items = items };
  memory = Some 0;
  table = None;
}

abbrev pub accessing_function : AccessKind → AccessKind → ℕ → Function
accessing_function store load offset = over_memory 0 (Public ∷ Public ∷ []) (false ∷ []) (accessing store load offset)

abbrev pub growing_function : Function
growing_function = over_memory 1 (Public ∷ []) (false ∷ false ∷ []) growing

-- so many pages of zeros, which grow to a reserve
abbrev pub zeros : ℕ → ℕ → Memory
zeros pages reserve = record { pages = pages; reserve = reserve; label = Public; bytes = replicate (pages * 65536) 0 }

abbrev pub memory_tree : AccessKind → AccessKind → ℕ → ℕ → ℕ → Tree
memory_tree store load offset pages reserve = record {
  types = accessing_type store load ∷ growing_type ∷ [];
  functions = accessing_function store load offset ∷ growing_function ∷ [];
  globals = [];
  memories = zeros pages reserve ∷ [];
  tables = [];
  exports = [];
}
