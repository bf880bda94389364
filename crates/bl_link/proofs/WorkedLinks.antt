-- Small parts linked, by computation.
use Rattle.std.proofs.Common.{◌≡◌, ℕ, List, [], ◌∷◌, Option, Some, None, Result, Ok, Err, refl, length, map, take, drop, true, false, slice_get, option_map}
use Rattle.bl_base.specs.declared.names.Label.TheVariants.{Public, Secret}
use Rattle.bl_wasm.specs.declared.instruction.Instr.{Instr}
use Rattle.bl_wasm.specs.declared.instruction.Instr.TheVariants.{Call, GlobalGet, LocalGet, I32Const, I64Const}
use Rattle.bl_wasm.specs.declared.types.WasmType.{WasmType}
use Rattle.bl_wasm.specs.declared.types.WasmType.TheVariants.{I32, I64}
use Rattle.bl_wasm.specs.declared.types.FuncType.{FuncType}
use Rattle.bl_wasm.specs.declared.types.GlobalType.{GlobalType}
use Rattle.bl_wasm.specs.declared.types.Limits.{Limits}
use Rattle.bl_wasm.specs.declared.module.Code.{Code}
use Rattle.bl_wasm.specs.declared.module.DataSegment.{DataSegment}
use Rattle.bl_wasm.specs.declared.module.ElementSegment.{ElementSegment}
use Rattle.bl_wasm.specs.declared.module.Export.{Export}
use Rattle.bl_wasm.specs.declared.module.ExportKind.{ExportKind}
use Rattle.bl_wasm.specs.declared.module.ExportKind.TheVariants as export
use Rattle.bl_wasm.specs.declared.module.Import.{Import}
use Rattle.bl_wasm.specs.declared.module.ImportKind.{ImportKind}
use Rattle.bl_wasm.specs.declared.module.ImportKind.TheVariants as import
use Rattle.bl_wasm.specs.declared.module.Module.{Module}
use Rattle.bl_wasm.specs.declared.linked.Tree.{Tree}
use Rattle.bl_base.specs.declared.quantity.Quantity.TheVariants.{Reserve}
use Rattle.bl_labels.specs.LabelledPlaces.{unlabelled}
use Rattle.bl_link.specs.Links.{links}
use Rattle.bl_link.specs.IndexSpaces.{LinkError, Part, DataRange, ElementRange, Limit, Mismatch, Unknown}

-- ---- parts

abbrev empty : Module
empty = record {
  types = [];
  imports = [];
  functions = [];
  tables = [];
  memories = [];
  globals = [];
  exports = [];
  start = None;
  elements = [];
  bodies = [];
  segments = [];
  customs = [];
}

-- a part of a name of one letter
abbrev part : ℕ → Module → Part
part name wasm = record { name = name ∷ []; wasm = wasm; labels = unlabelled }

abbrev wants : ℕ → ℕ → ImportKind → Import
wants from name kind = record { from = from ∷ []; name = name ∷ []; kind = kind }

abbrev gives : ℕ → ExportKind → ℕ → Export
gives name kind index = record { name = name ∷ []; kind = kind; index = index }

abbrev limits : ℕ → Option ℕ → Limits
limits min max = record { min = min; max = max }

abbrev code : List Instr → Code
code items = record { locals = []; items = items }

-- from an i32 to an i32, and nothing
abbrev inc : FuncType
inc = record { params = I32 ∷ []; results = I32 ∷ [] }

abbrev none_of : FuncType
none_of = record { params = []; results = [] }

-- bytes at an address of the memory
abbrev bytes_at : ℕ → List ℕ → DataSegment
bytes_at address bytes = record { memory = 0; offset = I32Const address ∷ []; bytes = bytes }

-- functions at a slot of the table
abbrev slots_at : ℕ → List ℕ → ElementSegment
slots_at slot functions = record { table = 0; offset = I32Const slot ∷ []; functions = functions }

-- ---- what is read of a tree

abbrev of_tree : {A : Type 0} → (Tree → A) → Result Tree LinkError → Result A LinkError
of_tree f (Ok tree) = Ok (f tree)
of_tree f (Err fault) = Err fault

-- so many bytes of a memory
abbrev bytes_of : ℕ → ℕ → ℕ → Tree → Option (List ℕ)
bytes_of memory address width tree = option_map (λ one. take width (drop address one.bytes)) (slice_get tree.memories memory)

-- the items of a body
abbrev items_of : ℕ → Tree → Option (List Instr)
items_of function tree = option_map (λ one. one.code.items) (slice_get tree.functions function)

-- ---- an import of an import: `a` defines two functions and exports the second; `b` defines one and passes the other on; `c`
-- calls it, and itself

abbrev first : Module
first = record empty {
  types = none_of ∷ inc ∷ [];
  functions = 0 ∷ 1 ∷ [];
  bodies = code [] ∷ code (LocalGet 0 ∷ []) ∷ [];
  exports = gives 0x66 export.Function 1 ∷ [];
}

abbrev second : Module
second = record empty {
  types = inc ∷ [];
  imports = wants 0x61 0x66 (import.Function 0) ∷ [];
  functions = 0 ∷ [];
  bodies = code (LocalGet 0 ∷ Call 0 ∷ []) ∷ [];
  exports = gives 0x67 export.Function 0 ∷ gives 0x68 export.Function 1 ∷ [];
}

abbrev third : Module
third = record empty {
  types = none_of ∷ inc ∷ [];
  imports = wants 0x62 0x67 (import.Function 1) ∷ wants 0x62 0x68 (import.Function 1) ∷ [];
  functions = 1 ∷ [];
  bodies = code (LocalGet 0 ∷ Call 0 ∷ Call 1 ∷ Call 2 ∷ []) ∷ [];
  exports = gives 0x66 export.Function 2 ∷ [];
}

abbrev passed_on : Result Tree LinkError
passed_on = links (part 0x61 first ∷ part 0x62 second ∷ part 0x63 third ∷ [])

calls_by_number : of_tree (items_of 3) passed_on ≡ Ok (Some (LocalGet 0 ∷ Call 1 ∷ Call 2 ∷ Call 3 ∷ []))
calls_by_number = refl

call_of_an_import : of_tree (items_of 2) passed_on ≡ Ok (Some (LocalGet 0 ∷ Call 1 ∷ []))
call_of_an_import = refl

types_by_number : of_tree (λ tree. map (λ one. one.type_index) tree.functions) passed_on ≡ Ok (0 ∷ 1 ∷ 2 ∷ 4 ∷ [])
types_by_number = refl

names_by_part : of_tree (λ tree. tree.exports) passed_on
    ≡ Ok ((0x61 ∷ 0x2F ∷ 0x66 ∷ [], 1) ∷ (0x62 ∷ 0x2F ∷ 0x67 ∷ [], 1) ∷ (0x62 ∷ 0x2F ∷ 0x68 ∷ [], 2) ∷ (0x63 ∷ 0x2F ∷ 0x66 ∷ [], 3) ∷ [])
names_by_part = refl

-- in another order the part isn't there yet
not_yet : links (part 0x62 second ∷ part 0x61 first ∷ []) ≡ Err (Unknown 0 0)
not_yet = refl

-- a function of another type
other_type : links (part 0x61 (record first { types = none_of ∷ none_of ∷ [] }) ∷ part 0x62 second ∷ []) ≡ Err (Mismatch 1 0)
other_type = refl

-- the first import that is refused
second_import : links (part 0x61 first ∷ part 0x62 (record second { imports = wants 0x61 0x66 (import.Function 0) ∷ wants 0x61 0x67 (import.Function 0) ∷ wants 0x61 0x66 (import.Memory (limits 0 None)) ∷ [] }) ∷ []) ≡ Err (Unknown 1 1)
second_import = refl

-- ---- limits

-- a part with a memory of those limits, which it exports
abbrev with_memory : Limits → Module
with_memory these = record empty { memories = these ∷ []; exports = gives 0x6D export.Memory 0 ∷ [] }

-- a part that imports such a memory from the part of a letter, and passes it on
abbrev wanting_memory : ℕ → Limits → Module
wanting_memory from these = record empty { imports = wants from 0x6D (import.Memory these) ∷ []; exports = gives 0x6D export.Memory 0 ∷ [] }

abbrev memory_into : Limits → Limits → Result ℕ LinkError
memory_into these wanted = of_tree (λ tree. length tree.memories) (links (part 0x61 (with_memory these) ∷ part 0x62 (wanting_memory 0x61 wanted) ∷ []))

same_limits : memory_into (limits 1 (Some 3)) (limits 1 (Some 3)) ≡ Ok 1
same_limits = refl

wider : memory_into (limits 1 (Some 3)) (limits 0 (Some 4)) ≡ Ok 1
wider = refl

no_most : memory_into (limits 1 None) (limits 1 None) ≡ Ok 1
no_most = refl

too_few : memory_into (limits 1 (Some 3)) (limits 2 (Some 3)) ≡ Err (Mismatch 1 0)
too_few = refl

too_many : memory_into (limits 1 (Some 3)) (limits 1 (Some 2)) ≡ Err (Mismatch 1 0)
too_many = refl

most_is_missing : memory_into (limits 1 None) (limits 1 (Some 65536)) ≡ Err (Mismatch 1 0)
most_is_missing = refl

-- what a part in between wants doesn't count
passed_on_wider : of_tree (λ tree. length tree.memories) (links (part 0x61 (with_memory (limits 1 (Some 3))) ∷ part 0x62 (wanting_memory 0x61 (limits 0 None)) ∷ part 0x63 (wanting_memory 0x62 (limits 1 (Some 3))) ∷ [])) ≡ Ok 1
passed_on_wider = refl

-- ---- segments

-- an empty segment may stand at the end, and not past it
empty_at_end : of_tree (λ tree. length tree.memories) (links (part 0x61 (record (with_memory (limits 1 None)) { segments = bytes_at 65536 [] ∷ [] }) ∷ [])) ≡ Ok 1
empty_at_end = refl

empty_past_end : links (part 0x61 (record (with_memory (limits 1 None)) { segments = bytes_at 65537 [] ∷ [] }) ∷ []) ≡ Err (DataRange 0)
empty_past_end = refl

-- the offset is unsigned
far : links (part 0x61 (record (with_memory (limits 1 None)) { segments = bytes_at 4294967295 (1 ∷ []) ∷ [] }) ∷ []) ≡ Err (DataRange 0)
far = refl

-- elements come before data, and before an import of a later part
elements_first : links (part 0x61 (record (with_memory (limits 1 None)) { tables = limits 2 None ∷ []; elements = slots_at 3 [] ∷ []; segments = bytes_at 65537 [] ∷ [] }) ∷ part 0x62 second ∷ []) ≡ Err (ElementRange 0)
elements_first = refl

-- two parts share a memory, and both write in it
abbrev shared : Result Tree LinkError
shared = links (
    part 0x61 (record (with_memory (limits 1 None)) { segments = bytes_at 10 (1 ∷ 2 ∷ 3 ∷ 4 ∷ []) ∷ [] })
    ∷ part 0x62 (record (wanting_memory 0x61 (limits 1 None)) { segments = bytes_at 12 (7 ∷ 8 ∷ 9 ∷ []) ∷ bytes_at 13 (6 ∷ []) ∷ [] })
    ∷ [])

both_write : of_tree (bytes_of 0 8 9) shared ≡ Ok (Some (0 ∷ 0 ∷ 1 ∷ 2 ∷ 7 ∷ 6 ∷ 9 ∷ 0 ∷ 0 ∷ []))
both_write = refl

still_a_page : of_tree (λ tree. map (λ one. length one.bytes) tree.memories) shared ≡ Ok (65536 ∷ [])
still_a_page = refl

-- a table that is shared: slots hold functions of both parts
abbrev table_shared : Result Tree LinkError
table_shared = links (
    part 0x61 (record first { tables = limits 4 (Some 4) ∷ []; exports = gives 0x66 export.Function 1 ∷ gives 0x74 export.Table 0 ∷ []; elements = slots_at 0 (0 ∷ 1 ∷ []) ∷ [] })
    ∷ part 0x62 (record second { imports = wants 0x61 0x66 (import.Function 0) ∷ wants 0x61 0x74 (import.Table (limits 3 None)) ∷ []; elements = slots_at 1 (1 ∷ 0 ∷ []) ∷ [] })
    ∷ [])

slots : of_tree (λ tree. tree.tables) table_shared ≡ Ok ((Some 0 ∷ Some 2 ∷ Some 1 ∷ None ∷ []) ∷ [])
slots = refl

-- ---- globals and labels

abbrev constant : WasmType → GlobalType
constant kind = record { kind = kind; mutable = false }

abbrev with_global : Module
with_global = record empty { globals = record { kind = constant I32; initial = I32Const 7 ∷ [] } ∷ []; exports = gives 0x67 export.Global 0 ∷ [] }

-- it imports the global, defines one with its value and another one, and writes at the address that the second one says
abbrev wanting_global : Module
wanting_global = record empty {
  imports = wants 0x61 0x67 (import.Global (constant I32)) ∷ [];
  globals = record { kind = constant I32; initial = GlobalGet 0 ∷ [] } ∷ record { kind = constant I64; initial = I64Const 9 ∷ [] } ∷ [];
  memories = limits 1 (Some 300) ∷ [];
  segments = record { memory = 0; offset = GlobalGet 1 ∷ []; bytes = 5 ∷ [] } ∷ [];
}

abbrev labelled : Result Tree LinkError
labelled = links (part 0x61 with_global ∷ record { name = 0x62 ∷ []; wasm = wanting_global; labels = record unlabelled { globals = 2 ∷ []; memories = 0 ∷ []; demanded = 1 ∷ [] } } ∷ [])

initial_values : of_tree (λ tree. map (λ one. one.initial) tree.globals) labelled ≡ Ok (7 ∷ 7 ∷ 9 ∷ [])
initial_values = refl

global_labels : of_tree (λ tree. map (λ one. one.label) tree.globals) labelled ≡ Ok (Public ∷ Public ∷ Secret ∷ [])
global_labels = refl

global_demands : of_tree (λ tree. map (λ one. one.demanded) tree.globals) labelled ≡ Ok (false ∷ true ∷ false ∷ [])
global_demands = refl

memory_label : of_tree (λ tree. map (λ one. one.label) tree.memories) labelled ≡ Ok (Secret ∷ [])
memory_label = refl

at_a_global : of_tree (bytes_of 0 6 3) labelled ≡ Ok (Some (0 ∷ 5 ∷ 0 ∷ []))
at_a_global = refl

-- a maximum above 256 pages
reserve_is_bounded : of_tree (λ tree. map (λ one. one.reserve) tree.memories) labelled ≡ Ok (256 ∷ [])
reserve_is_bounded = refl

-- 5 memories of 256 pages in reserve; the segments come first
too_much : links (part 0x61 (with_memory (limits 0 None)) ∷ part 0x62 (with_memory (limits 0 None)) ∷ part 0x63 (with_memory (limits 0 None)) ∷ part 0x64 (with_memory (limits 0 None)) ∷ part 0x65 (with_memory (limits 0 None)) ∷ []) ≡ Err (Limit Reserve 1280)
too_much = refl

-- a parameter's label and a result's demand, by the index that counts the imports
abbrev places_labelled : Result Tree LinkError
places_labelled = links (part 0x61 first ∷ record { name = 0x62 ∷ []; wasm = second; labels = record unlabelled { params = record { function = 1; index = 0 } ∷ []; results = record { function = 1; index = 0 } ∷ [] } } ∷ [])

param_labels : of_tree (λ tree. map (λ one. one.labels) tree.functions) places_labelled ≡ Ok ([] ∷ (Public ∷ []) ∷ (Secret ∷ []) ∷ [])
param_labels = refl

result_demands : of_tree (λ tree. map (λ one. one.demanded) tree.functions) places_labelled ≡ Ok ([] ∷ (false ∷ []) ∷ (true ∷ []) ∷ [])
result_demands = refl
