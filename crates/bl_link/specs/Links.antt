-- The linked tree of several modules (WebAssembly 1.0, section 4.5.4).
use Rattle.std.specs.Prelude.{ℕ, ◌+◌, ◌-◌, ◌*◌, min, nat_le, Bool, true, false, if◌then◌else◌, List, [], ◌∷◌, ◌++◌, length, map, fold, replicate, filter_map, slice_get, sum_by, zip, Option, Some, None, option_map, unwrap_or, Result, Ok, Err}
use Rattle.std.specs.List.{enumerate_from, range_with_len, list_all}
use Rattle.bl_base.specs.declared.names.Label.{Label}
use Rattle.bl_base.specs.declared.names.Label.TheVariants.{Public, Secret}
use Rattle.bl_base.specs.Quantity.{limit_of}
use Rattle.bl_base.specs.declared.quantity.Quantity.TheVariants as quantity
use Rattle.bl_labels.specs.LabelledPlaces.{is_listed, is_place}
use Rattle.bl_labels.specs.declared.labels.Labels.{Labels}
use Rattle.bl_wasm.specs.declared.instruction.Instr.{Instr}
use Rattle.bl_wasm.specs.declared.instruction.Instr.TheVariants.{I32Const, I64Const, GlobalGet}
use Rattle.bl_wasm.specs.declared.types.FuncType.{FuncType}
use Rattle.bl_wasm.specs.declared.types.Limits.{Limits}
use Rattle.bl_wasm.specs.declared.module.Code.{Code}
use Rattle.bl_wasm.specs.declared.module.DefinedGlobal.{DefinedGlobal}
use Rattle.bl_wasm.specs.declared.module.DataSegment.{DataSegment}
use Rattle.bl_wasm.specs.declared.module.ElementSegment.{ElementSegment}
use Rattle.bl_wasm.specs.declared.module.Export.{Export}
use Rattle.bl_wasm.specs.declared.module.ExportKind.{ExportKind}
use Rattle.bl_wasm.specs.declared.module.ExportKind.TheVariants as export
use Rattle.bl_wasm.specs.declared.module.Module.{Module}
use Rattle.bl_wasm.specs.declared.linked.Function.{Function}
use Rattle.bl_wasm.specs.declared.linked.Global.{Global}
use Rattle.bl_wasm.specs.declared.linked.Memory.{Memory}
use Rattle.bl_wasm.specs.declared.linked.Tree.{Tree}
use Rattle.bl_link.specs.ImportMatches.{all_given}
use Rattle.bl_link.specs.ExportNames.{qualified}
use Rattle.bl_link.specs.IndexSpaces.{External, LinkError, Part, Spaces, Store, changed, DataRange, ElementRange, Limit, names, number, on_ok, space, spaces_of, written}
use Rattle.bl_link.specs.Signatures.{signature, value_of}
use Rattle.bl_wasm.specs.IndexMaps.{renamed}

-- ---- labels

-- the label of what is or isn't declared secret
abbrev pub secret_if : Bool → Label
secret_if true = Secret
secret_if false = Public

-- ---- what a part defines

-- how many there are of what may be missing
abbrev pub count : {A : Type 0} → Option (List A) → ℕ
count None = 0
count (Some xs) = length xs

-- a function by its index in the part, its type index and its code; its items mean the first memory and the first table
abbrev pub function : List FuncType → Labels → Spaces → ℕ × (ℕ × Code) → Function
function types labels spaces defined = record {
  type_index = number spaces.types defined.1.0;
  labels = map (λ param. secret_if (is_place labels.params defined.0 param))
      (range_with_len 0 (count (option_map (λ type. type.params) (slice_get types defined.1.0))));
  demanded = map (is_place labels.results defined.0)
      (range_with_len 0 (count (option_map (λ type. type.results) (slice_get types defined.1.0))));
  code = record defined.1.1 { items = map (renamed (names spaces)) defined.1.1.items };
  memory = slice_get spaces.memories 0;
  table = slice_get spaces.tables 0;
}

-- the value of an initialiser: a constant, or the initial value of a global (section 4.4.9)
abbrev pub constant_value : List Global → Spaces → List Instr → ℕ
constant_value globals spaces (I32Const n ∷ []) = n
constant_value globals spaces (I64Const n ∷ []) = n
constant_value globals spaces (GlobalGet index ∷ []) =
    unwrap_or (option_map (λ global. global.initial) (slice_get globals (number spaces.globals index))) 0
constant_value globals spaces items = 0

-- a global by its index in the part; its initialiser names imported ones alone
abbrev pub global : List Global → Labels → Spaces → ℕ × DefinedGlobal → Global
global globals labels spaces defined = record {
  kind = value_of defined.1.kind.kind;
  mutable = defined.1.kind.mutable;
  initial = constant_value globals spaces defined.1.initial;
  label = secret_if (is_listed labels.globals defined.0);
  demanded = is_listed labels.demanded defined.0;
}

-- a memory by its index in the part; its reserve is its maximum, or the limit of a memory where that is greater or absent
abbrev pub memory : Labels → ℕ × Limits → Memory
memory labels defined = record {
  pages = defined.1.min;
  reserve = min (limit_of quantity.Memory) (unwrap_or defined.1.max (limit_of quantity.Memory));
  label = secret_if (is_listed labels.memories defined.0);
  bytes = replicate (defined.1.min * 65536) 0;
}

-- a table, whose slots are empty
abbrev pub table : Limits → List (Option ℕ)
table defined = replicate defined.min None

-- what is defined in a space, each with its index: what is imported stands before it
abbrev pub indexed : {A : Type 0} → List ℕ → List A → List (ℕ × A)
indexed space defined = enumerate_from (length space - length defined) defined

-- ---- exports (section 4.2.10)

-- an export by its name in the tree
abbrev pub exported : List ℕ → Spaces → Export → List ℕ × External
exported name spaces entry =
    (qualified name entry.name, record { kind = entry.kind; number = number (space spaces entry.kind) entry.index })

-- the pair of what is exported, where that is a function: no other export is in the tree
abbrev pub of_function : ExportKind → List ℕ × ℕ → Option (List ℕ × ℕ)
of_function export.Function pair = Some pair
of_function other pair = None

abbrev pub pair : List ℕ × External → Option (List ℕ × ℕ)
pair one = of_function one.1.kind (one.0, one.1.number)

-- ---- segments (sections 4.2.7 and 4.2.8)

-- how many slots a table has, and how many bytes a memory
abbrev pub slots : List (List (Option ℕ)) → ℕ → ℕ
slots tables number = unwrap_or (option_map (λ table. length table) (slice_get tables number)) 0

abbrev pub size : List Memory → ℕ → ℕ
size memories number = unwrap_or (option_map (λ memory. length memory.bytes) (slice_get memories number)) 0

-- whether a segment lies in the table that it names
abbrev pub element_fits : List Global → Spaces → List (List (Option ℕ)) → ElementSegment → Bool
element_fits globals spaces tables segment =
    nat_le (constant_value globals spaces segment.offset + length segment.functions)
    (slots tables (number spaces.tables segment.table))

-- the tables with a segment written
abbrev pub put_element : List Global → Spaces → List (List (Option ℕ)) → ElementSegment → List (List (Option ℕ))
put_element globals spaces tables segment =
    changed (number spaces.tables segment.table)
    (written (constant_value globals spaces segment.offset) (map (λ function. Some (number spaces.functions function)) segment.functions))
    tables

-- whether a segment lies in the first bytes of the memory that it names
abbrev pub data_fits : List Global → Spaces → List Memory → DataSegment → Bool
data_fits globals spaces memories segment =
    nat_le (constant_value globals spaces segment.offset + length segment.bytes) (size memories (number spaces.memories segment.memory))

-- the memories with a segment written
abbrev pub put_data : List Global → Spaces → List Memory → DataSegment → List Memory
put_data globals spaces memories segment =
    changed (number spaces.memories segment.memory)
    (λ memory. record memory { bytes = written (constant_value globals spaces segment.offset) segment.bytes memory.bytes })
    memories

-- ---- a part

-- a part by its name, its module and its labels
abbrev pub part_of : List ℕ → Module → Labels → Part
part_of name wasm labels = record { name = name; wasm = wasm; labels = labels }

-- a module with other bodies
abbrev pub with_code : Module → List Code → Module
with_code wasm bodies = record wasm { bodies = bodies }

-- the tree, with what a part defines, and the functions that it exports
abbrev pub with_tree : Tree → Part → Spaces → Tree
with_tree tree part spaces = record {
  types = tree.types ++ map signature part.wasm.types;
  functions = tree.functions
      ++ map (function part.wasm.types part.labels spaces) (indexed spaces.functions (zip part.wasm.functions part.wasm.bodies));
  globals = tree.globals ++ map (global tree.globals part.labels spaces) (indexed spaces.globals part.wasm.globals);
  memories = tree.memories ++ map (memory part.labels) (indexed spaces.memories part.wasm.memories);
  tables = tree.tables ++ map table part.wasm.tables;
  exports = tree.exports ++ filter_map (λ entry. pair (exported part.name spaces entry)) part.wasm.exports;
}

-- what is linked, with what a part defines and exports
abbrev pub with_part : Store → Part → Spaces → Store
with_part store part spaces = record {
  tree = with_tree store.tree part spaces;
  exports = store.exports ++ map (exported part.name spaces) part.wasm.exports;
  tables = store.tables ++ part.wasm.tables;
  memories = store.memories ++ part.wasm.memories;
}

-- the tree with all segments of a part written, element segments first
abbrev pub initialised : List ElementSegment → List DataSegment → Spaces → Tree → Tree
initialised elements segments spaces tree = record tree {
  tables = fold (put_element tree.globals spaces) tree.tables elements;
  memories = fold (put_data tree.globals spaces) tree.memories segments;
}

-- all segments of a part are tested, element segments first, before one is written
abbrev pub with_segments : List ElementSegment → List DataSegment → Spaces → ℕ → Store → Result Store LinkError
with_segments elements segments spaces part store =
    if list_all (element_fits store.tree.globals spaces store.tree.tables) elements
    then (if list_all (data_fits store.tree.globals spaces store.tree.memories) segments
    then Ok (record store { tree = initialised elements segments spaces store.tree })
    else Err (DataRange part))
    else Err (ElementRange part)

-- a part whose imports are given those values is linked: what it defines, and then its segments
abbrev pub with_given : Store → ℕ × Part → List External → Result Store LinkError
with_given store next given =
    with_segments next.1.wasm.elements next.1.wasm.segments (spaces_of store next.1.wasm given) next.0
    (with_part store next.1 (spaces_of store next.1.wasm given))

-- a part is linked: first its imports in order, then its segments
abbrev pub with_next : Result Store LinkError → ℕ × Part → Result Store LinkError
with_next so_far next = on_ok so_far (λ store. on_ok (all_given store next.1.wasm next.0) (with_given store next))

-- ---- the whole

-- nothing is linked
abbrev pub nothing : Store
nothing = record {
  tree = record { types = []; functions = []; globals = []; memories = []; tables = []; exports = [] };
  exports = [];
  tables = [];
  memories = [];
}

-- the sum of all reserves
abbrev pub reserves : Tree → ℕ
reserves tree = sum_by (λ memory. memory.reserve) tree.memories

-- the tree, where they are within their limit
abbrev pub within_reserve : Store → Result Tree LinkError
within_reserve store =
    if nat_le (reserves store.tree) (limit_of quantity.Reserve) then Ok store.tree else Err (Limit quantity.Reserve (reserves store.tree))

-- the linked tree of parts, or the first fault: part by part, and the limit on reserves last
abbrev pub links : List Part → Result Tree LinkError
links parts = on_ok (fold with_next (Ok nothing) (enumerate_from 0 parts)) within_reserve
