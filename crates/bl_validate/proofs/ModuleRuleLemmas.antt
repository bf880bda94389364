-- The rules over the spaces of a scope, and the rules over the module.
use Rattle.std.proofs.Common.{◌≡◌, ◌↔◌, ◌<◌, arith, Bool, true, false, IsTrue, MatchBool, [], ◌∷◌, sym, ap, refl, ℕ, List, length, take, get_or}
use Rattle.std.specs.List.{All, AllWithin, HoldsAt}
use Rattle.std.proofs.lemmas.Bool.{false≢true}
use Rattle.std.proofs.Math.Seq.{take-append_seam}
use Rattle.bl_wasm.specs.Validity.{IsValid, IsElement, IsData, IsInitial, IsOffset, functions_of, tables_of, memories_of, globals_of, imported, global_of, space_of}
use Rattle.bl_wasm.specs.declared.instruction.Instr.{Instr}
use Rattle.bl_wasm.specs.declared.instruction.Instr.TheVariants.{Unreachable}
use Rattle.bl_wasm.specs.declared.types.GlobalType.{GlobalType}
use Rattle.bl_wasm.specs.declared.types.WasmType.TheVariants.{I32}
use Rattle.bl_wasm.specs.declared.module.DataSegment.{DataSegment}
use Rattle.bl_wasm.specs.declared.module.ElementSegment.{ElementSegment}
use Rattle.bl_wasm.specs.declared.module.Export.{Export}
use Rattle.bl_wasm.specs.declared.module.ExportKind.{ExportKind}
use Rattle.bl_wasm.specs.declared.module.ExportKind.TheVariants as export
use Rattle.bl_wasm.specs.declared.module.Module.{Module}
use Rattle.bl_validate.specs.declared.scope.Scope.{Scope}
use Rattle.bl_validate.specs.ModuleRules.{AreExports, AreFunctions, AreGlobals, AreParts, AreStores, IsDataAt, IsElementAt, space_in}
use Rattle.bl_validate.specs.Scopes.{IsScope}

-- what a test of each says
pub all_from_cases : {X : Type 0} (P : X → Type 0) (xs : List X) (r : Bool) → MatchBool r (AllWithin P xs 0 (length xs)) ((k : ℕ) × (k < length xs) × HoldsAt (λ x. P x → ⊥) xs k) → IsTrue r ↔ All P xs
all_from_cases P xs true h = (λ _ k d below. h k d (omega arith) below, λ _. refl)
all_from_cases P [] false h = absurd (omega (arith, h.1))
all_from_cases P (x ∷ xs) false h = (λ e. absurd (false≢true e), λ all. absurd (h.2 x (all h.0 x h.1)))

-- an offset is an initial value of type i32
pub initial_i32 : (globals : List GlobalType) (items : List Instr) → IsInitial globals I32 items ↔ IsOffset globals items
initial_i32 globals [] = (λ h. h, λ h. h)
initial_i32 globals (item ∷ []) = elim item as (λ i. IsInitial globals I32 (i ∷ []) ↔ IsOffset globals (i ∷ [])) [ Unreachable ↦ (λ h. h, λ h. h) | _ ↦ (λ h. h, λ h. h) ]
initial_i32 globals (item ∷ next ∷ items) = elim item as (λ i. IsInitial globals I32 (i ∷ next ∷ items) ↔ IsOffset globals (i ∷ next ∷ items)) [ Unreachable ↦ (λ h. h, λ h. h) | _ ↦ (λ h. h, λ h. h) ]

-- the imports are the first of the globals
pub imports_first : {tree : Module} {scope : Scope} → IsScope tree scope → take scope.imported scope.globals.items ≡ imported global_of tree
imports_first {tree = tree} is = rw (is.imports, is.globals) (take-append_seam _ _)

-- the space that an export names
space_same : {tree : Module} {scope : Scope} → IsScope tree scope → (kind : ExportKind) → space_in scope kind ≡ space_of tree kind
space_same is export.Function = ap length is.functions
space_same is export.Table = ap length is.tables
space_same is export.Memory = ap length is.memories
space_same is export.Global = ap length is.globals

-- an element segment over the module's spaces
of_element : (tree : Module) {segment : ElementSegment} → IsElementAt (length (tables_of tree)) (length (functions_of tree)) (globals_of tree) segment → IsElement tree segment
of_element tree h = record { table = h.table; offset = h.offset; functions = h.named }

to_element : (tree : Module) {segment : ElementSegment} → IsElement tree segment → IsElementAt (length (tables_of tree)) (length (functions_of tree)) (globals_of tree) segment
to_element tree h = record { table = h.table; offset = h.offset; named = h.functions }

-- a data segment over the module's spaces
of_data : (tree : Module) {segment : DataSegment} → IsDataAt (length (memories_of tree)) (globals_of tree) segment → IsData tree segment
of_data tree h = record { memory = h.memory; offset = h.offset }

to_data : (tree : Module) {segment : DataSegment} → IsData tree segment → IsDataAt (length (memories_of tree)) (globals_of tree) segment
to_data tree h = record { memory = h.memory; offset = h.offset }

-- the element segments over the spaces, and over the module
elements_over : {tree : Module} {scope : Scope} → IsScope tree scope → (segments : List ElementSegment) → All (IsElementAt (length scope.tables.items) (length scope.functions.items) scope.globals.items) segments ↔ All (IsElement tree) segments
elements_over {tree = tree} {scope = scope} is segments =
    let tables : length (tables_of tree) ≡ length scope.tables.items = ap length (sym is.tables) in
    let functions : length (functions_of tree) ≡ length scope.functions.items = ap length (sym is.functions) in (
      λ all k d below. of_element tree (rw (tables, functions, ← is.globals) (all k d below)),
      λ all k d below. rw (← tables, ← functions, is.globals) (to_element tree (all k d below)),
    )

-- the data segments over the spaces, and over the module
data_over : {tree : Module} {scope : Scope} → IsScope tree scope → (segments : List DataSegment) → All (IsDataAt (length scope.memories.items) scope.globals.items) segments ↔ All (IsData tree) segments
data_over {tree = tree} {scope = scope} is segments =
    let memories : length (memories_of tree) ≡ length scope.memories.items = ap length (sym is.memories) in (
      λ all k d below. of_data tree (rw (memories, ← is.globals) (all k d below)),
      λ all k d below. rw (← memories, is.globals) (to_data tree (all k d below)),
    )

-- exports over the spaces, and over the module
exports_over : {tree : Module} {scope : Scope} → IsScope tree scope → (exports : List Export) → All (λ entry. entry.index < space_in scope entry.kind) exports ↔ All (λ entry. entry.index < space_of tree entry.kind) exports
exports_over is exports = (
  λ all k d below. rw (← space_same is (get_or exports k d).kind) (all k d below),
  λ all k d below. rw (space_same is (get_or exports k d).kind) (all k d below),
)

-- the rules over the spaces of a scope are those over the module
pub valid_from : {tree : Module} {scope : Scope} → IsScope tree scope → AreParts tree scope → AreExports scope tree.exports → IsValid tree
valid_from {tree = tree} {scope = scope} is parts exports =
    let functions : AreFunctions tree.types (functions_of tree) tree.functions tree.bodies = rw (← is.types, ← is.functions) parts.functions in
    let stores : AreStores (tables_of tree) (memories_of tree) = rw (← is.tables, ← is.memories) parts.stores in
    let globals : AreGlobals (globals_of tree) (imported global_of tree) tree.globals = rw (← is.globals, ← imports_first is) parts.globals in
    record {
      types = functions.all;
      functions = functions.indices;
      counts = functions.counts;
      codes = functions.codes;
      one_table = stores.one_table;
      one_memory = stores.one_memory;
      tables = stores.limits;
      memories = stores.sizes;
      kinds = globals.kinds;
      initials = globals.initials;
      elements = (elements_over is _).0 parts.elements;
      segments = (data_over is _).0 parts.segments;
      exports = (exports_over is _).0 exports.exist;
      distinct = exports.distinct;
      start = parts.start;
    }

pub parts_from : {tree : Module} {scope : Scope} → IsScope tree scope → IsValid tree → AreParts tree scope
parts_from {tree = tree} {scope = scope} is valid =
    let functions : AreFunctions tree.types (functions_of tree) tree.functions tree.bodies = record { all = valid.types; indices = valid.functions; counts = valid.counts; codes = valid.codes } in
    let stores : AreStores (tables_of tree) (memories_of tree) = record { one_table = valid.one_table; one_memory = valid.one_memory; limits = valid.tables; sizes = valid.memories } in
    let globals : AreGlobals (globals_of tree) (imported global_of tree) tree.globals = record { kinds = valid.kinds; initials = valid.initials } in
    record {
      functions = rw (is.types, is.functions) functions;
      stores = rw (is.tables, is.memories) stores;
      globals = rw (imports_first is, is.globals) globals;
      elements = (elements_over is _).1 valid.elements;
      segments = (data_over is _).1 valid.segments;
      start = valid.start;
    }

pub exports_from : {tree : Module} {scope : Scope} → IsScope tree scope → IsValid tree → AreExports scope tree.exports
exports_from is valid = record { exist = (exports_over is _).1 valid.exports; distinct = valid.distinct }
