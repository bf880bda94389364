-- Small trees, and their runs by computation.
use Rattle.std.proofs.Common.{ℕ, zero, suc, List, [], ◌∷◌, Option, Some, None}
use Rattle.bl_base.specs.Runs.{Next, goes, ends, stuck}
use Rattle.bl_base.specs.declared.names.ValueType.{ValueType}
use Rattle.bl_base.specs.declared.names.ValueType.TheVariants as value
use Rattle.bl_base.specs.declared.names.Label.TheVariants.{Public}
use Rattle.bl_base.specs.declared.start.Start.{Start}
use Rattle.bl_wasm.specs.declared.instruction.Instr.{Instr}
use Rattle.bl_wasm.specs.declared.types.WasmType.TheVariants as type
use Rattle.bl_wasm.specs.declared.linked.Signature.{Signature}
use Rattle.bl_wasm.specs.declared.linked.Function.{Function}
use Rattle.bl_wasm.specs.declared.linked.Tree.{Tree}
use Rattle.bl_reduce.specs.Configurations.{Config}
use Rattle.bl_reduce.specs.Steps.{source_step}
use Rattle.bl_reduce.specs.Outcomes.{opening}

-- what stands after so many further steps
abbrev pub further : Tree → ℕ → Next Config → Next Config
further tree zero next = next
further tree (suc n) (goes c) = further tree n (source_step tree c)
further tree (suc n) (ends o) = stuck
further tree (suc n) stuck = stuck

-- what stands after so many steps of the entering of function 0 with those arguments
abbrev pub run : Tree → ℕ → List ℕ → Next Config
run tree n arguments = further tree n (goes (opening tree 0 (record { args = arguments; patches = [] })))

-- the same with patches too
abbrev pub run_from : Tree → ℕ → Start → Next Config
run_from tree n start = further tree n (goes (opening tree 0 start))

-- whether a run has not ended after so many steps
abbrev pub HasNotEnded : Next Config → Type 0
HasNotEnded (goes c) = Unit {0}
HasNotEnded (ends o) = ⊥
HasNotEnded stuck = ⊥

-- a function of that type with so many i32 locals and that body
abbrev pub function : ℕ → ℕ → List Instr → Function
function index locals items = record {
  type_index = index;
  labels = [];
  demanded = [];
  code = record { locals = record { count = locals; kind = type.I32 } ∷ []; items = items };
  memory = None;
  table = Some 0;
}

-- i32 values
abbrev pub i32s : ℕ → List ValueType
i32s zero = []
i32s (suc n) = value.I32 ∷ i32s n

abbrev pub signature : ℕ → ℕ → Signature
signature params results = record { params = i32s params; results = i32s results }

abbrev pub tree_of : List Signature → List Function → List (Option ℕ) → Tree
tree_of types functions table = record {
  types = types;
  functions = functions;
  globals = [];
  memories = [];
  tables = table ∷ [];
  exports = [];
}

abbrev pub one : ℕ → ℕ → ℕ → List Instr → Tree
one params results locals items = tree_of (signature params results ∷ []) (function 0 locals items ∷ []) []

-- a function with memory 0
abbrev pub with_memory : List Instr → Function
with_memory items = record (function 0 0 items) { memory = Some 0 }

abbrev pub over : ℕ → ℕ → ℕ → List ℕ → List Instr → Tree
over params pages reserve bytes items = record {
  types = signature params 1 ∷ [];
  functions = with_memory items ∷ [];
  globals = [];
  memories = record { pages = pages; reserve = reserve; label = Public; bytes = bytes } ∷ [];
  tables = [];
  exports = [];
}
