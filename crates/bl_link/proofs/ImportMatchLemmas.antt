-- What an import is given is of the type that it wants, in every later tree.
use Rattle.std.proofs.Common.{◌≡◌, ◌∙◌, refl, ap, ℕ, ◌<◌, List, [], ◌∷◌, length, map, true, false, ◌&&◌, Bool, Option, Some, None, slice_get, filter_map, arith}
use Rattle.std.specs.List.{AllZip}
use Rattle.std.specs.Cmp.Lexicographic.{pointwise}
use Rattle.std.specs.Prelude.{if◌then◌else◌}
use Rattle.std.specs.Option.{option_and_then}
use Rattle.std.proofs.lemmas.Option.{slice_get_within}
use Rattle.bl_base.specs.declared.names.ValueType.{ValueType}
use Rattle.bl_base.specs.declared.names.ValueType.TheVariants as value
use Rattle.bl_wasm.specs.Linked.{function_type, global_type, type_of}
use Rattle.bl_wasm.specs.Typing.{integer}
use Rattle.bl_wasm.specs.Validity.{function_of, table_of, memory_of, global_of}
use Rattle.bl_wasm.specs.declared.module.Import.{Import}
use Rattle.bl_wasm.specs.declared.module.ImportKind.{ImportKind}
use Rattle.bl_wasm.specs.declared.module.ImportKind.TheVariants as import
use Rattle.bl_wasm.specs.declared.module.ExportKind.{ExportKind}
use Rattle.bl_wasm.specs.declared.module.ExportKind.TheVariants as export
use Rattle.bl_wasm.specs.declared.module.Module.{Module}
use Rattle.bl_wasm.specs.declared.types.WasmType.{WasmType}
use Rattle.bl_wasm.specs.declared.types.WasmType.TheVariants.{I32, I64}
use Rattle.bl_wasm.specs.declared.types.FuncType.{FuncType}
use Rattle.bl_wasm.specs.declared.types.GlobalType.{GlobalType}
use Rattle.bl_wasm.specs.declared.linked.Signature.{Signature}
use Rattle.bl_wasm.specs.declared.linked.Function.{Function}
use Rattle.bl_wasm.specs.declared.linked.Global.{Global}
use Rattle.bl_wasm.specs.declared.linked.Tree.{Tree}
use Rattle.bl_link.specs.TreeGrowth.{Grows}
use Rattle.bl_link.specs.ImportMatches.{matches, passes, same, same_type, same_global, same_mutable, within}
use Rattle.bl_link.specs.IndexSpaces.{External, Store, of_kind, same_kind}
use Rattle.bl_link.proofs.NumberedLists.{passes_some, Both, zip_filtered}

pub and_left : (a b : Bool) → (a && b) ≡ true → a ≡ true
and_left true b h = refl
and_left false b h = absurd (cc h)

pub and_right : (a b : Bool) → (a && b) ≡ true → b ≡ true
and_right true b h = h
and_right false b h = absurd (cc h)

-- ---- equal types

same_value : (a : ValueType) (b : WasmType) → same a b ≡ true → integer a ≡ b
same_value value.I32 I32 h = refl
same_value value.I64 I64 h = refl
same_value a b h = absurd (cc h)

same_values : (xs : List ValueType) (ys : List WasmType) → pointwise same xs ys ≡ true → map integer xs ≡ ys
same_values [] [] h = refl
same_values [] (b ∷ ys) h = absurd (cc h)
same_values (a ∷ xs) [] h = absurd (cc h)
same_values (a ∷ xs) (b ∷ ys) h =
    let first : integer a ≡ b = same_value a b (and_left (same a b) (pointwise same xs ys) h) in
    let later : map integer xs ≡ ys = same_values xs ys (and_right (same a b) (pointwise same xs ys) h) in
    cc

type_by : List WasmType → List WasmType → FuncType
type_by params results = record { params = params; results = results }

pub made_type : (params results : List WasmType) (b : FuncType) → params ≡ b.params → results ≡ b.results → ◌≡◌ {A = FuncType} (record { params = params; results = results }) b
unfolding type_by
made_type params results b p r = ap (λ (params : List WasmType). type_by params results) p ∙ ap (λ (results : List WasmType). type_by b.params results) r

pub type_is_same : (a : Signature) (b : FuncType) → same_type a b ≡ true → function_type a ≡ b
type_is_same a b h =
    let params : map integer a.params ≡ b.params = same_values a.params b.params (and_left (pointwise same a.params b.params) (pointwise same a.results b.results) h) in
    let results : map integer a.results ≡ b.results = same_values a.results b.results (and_right (pointwise same a.params b.params) (pointwise same a.results b.results) h) in
    made_type (map integer a.params) (map integer a.results) b params results

same_mutable_is : (a b : Bool) → same_mutable a b ≡ true → a ≡ b
same_mutable_is true true h = refl
same_mutable_is true false h = absurd (cc h)
same_mutable_is false true h = absurd (cc h)
same_mutable_is false false h = refl

global_by : WasmType → Bool → GlobalType
global_by kind mutable = record { kind = kind; mutable = mutable }

pub made_global : (kind : WasmType) (mutable : Bool) (b : GlobalType) → kind ≡ b.kind → mutable ≡ b.mutable → ◌≡◌ {A = GlobalType} (record { kind = kind; mutable = mutable }) b
unfolding global_by
made_global kind mutable b p r = ap (λ (kind : WasmType). global_by kind mutable) p ∙ ap (λ (mutable : Bool). global_by b.kind mutable) r

pub global_is_same : (a : Global) (b : GlobalType) → same_global a b ≡ true → global_type a ≡ b
global_is_same a b h =
    made_global (integer a.kind) a.mutable b (same_value a.kind b.kind (and_left (same a.kind b.kind) (same_mutable a.mutable b.mutable) h)) (same_mutable_is a.mutable b.mutable (and_right (same a.kind b.kind) (same_mutable a.mutable b.mutable) h))

-- ---- functions of a tree

-- the function of that number is of a type
abbrev pub HasSignature : Tree → ℕ → FuncType → Type 0
HasSignature tree number type = (function : Function) × (signature : Signature) × (slice_get tree.functions number ≡ Some function) × (slice_get tree.types function.type_index ≡ Some signature) × (function_type signature ≡ type)

abbrev pub HasGlobal : Tree → ℕ → GlobalType → Type 0
HasGlobal tree number type = (global : Global) × (slice_get tree.globals number ≡ Some global) × (global_type global ≡ type)

-- what a type of a function was looked up in
typed_function : (tree : Tree) (found : Option Function) (signature : Signature) → option_and_then (λ function. slice_get tree.types function.type_index) found ≡ Some signature
    → (function : Function) × (found ≡ Some function) × (slice_get tree.types function.type_index ≡ Some signature)
typed_function tree None signature h = absurd (cc h)
typed_function tree (Some function) signature h = (function, refl, h)

-- ---- spaces of imports

-- a value matches what an import wants
abbrev pub Suits : Store → Module → Import → External → Type 0
Suits store wasm wanted value = matches store wasm wanted.kind value.kind value.number ≡ true

-- the function of that number is of the type of a type index of the module, where there is one
abbrev pub OfIndex : Module → Tree → ℕ → ℕ → Type 0
OfIndex wasm later index number = (type : FuncType) → slice_get wasm.types index ≡ Some type → HasSignature later number type

module _ (store : Store) (wasm : Module) (later : Tree) (grows : Grows store.tree later) where
  -- one number where the value is of a kind
  abbrev one_of : ExportKind → ExportKind → ℕ → Option ℕ
  one_of kind is number = if same_kind kind is then Some number else None

  function_suits : (wanted : ImportKind) (kind : ExportKind) (number : ℕ) → matches store wasm wanted kind number ≡ true → Both (OfIndex wasm later) (function_of wanted) (one_of export.Function kind number)
  function_suits (import.Function index) export.Function number h = λ type exists.
      let known = passes_some (λ type. passes (same_type type) (slice_get wasm.types index)) (type_of store.tree number) h in
      let wanted = passes_some (same_type known.0) (slice_get wasm.types index) known.2 in
      let found = typed_function store.tree (slice_get store.tree.functions number) known.0 known.1 in
      let one : wanted.0 ≡ type = cc in
      (found.0, known.0, grows.functions number found.0 found.1, grows.types found.0.type_index known.0 found.2, type_is_same known.0 wanted.0 wanted.2 ∙ one)
  function_suits (import.Table limits) export.Table number h = tt
  function_suits (import.Memory limits) export.Memory number h = tt
  function_suits (import.Global type) export.Global number h = tt
  function_suits wanted kind number h = absurd (cc h)

  global_suits : (wanted : ImportKind) (kind : ExportKind) (number : ℕ) → matches store wasm wanted kind number ≡ true → Both (λ type number. HasGlobal later number type) (global_of wanted) (one_of export.Global kind number)
  global_suits (import.Function index) export.Function number h = tt
  global_suits (import.Table limits) export.Table number h = tt
  global_suits (import.Memory limits) export.Memory number h = tt
  global_suits (import.Global type) export.Global number h =
      let known = passes_some (λ global. same_global global type) (slice_get store.tree.globals number) h in
      (known.0, grows.globals number known.0 known.1, global_is_same known.0 type known.2)
  global_suits wanted kind number h = absurd (cc h)

  table_suits : length store.tables ≡ length store.tree.tables → (wanted : ImportKind) (kind : ExportKind) (number : ℕ) → matches store wasm wanted kind number ≡ true → Both (λ limits number. number < length later.tables) (table_of wanted) (one_of export.Table kind number)
  table_suits same (import.Function index) export.Function number h = tt
  table_suits same (import.Table limits) export.Table number h =
      let known = passes_some (λ these. within these limits) (slice_get store.tables number) h in
      omega (arith, same, grows.tables, slice_get_within store.tables number known.0 known.1)
  table_suits same (import.Memory limits) export.Memory number h = tt
  table_suits same (import.Global type) export.Global number h = tt
  table_suits same wanted kind number h = absurd (cc h)

  memory_suits : length store.memories ≡ length store.tree.memories → (wanted : ImportKind) (kind : ExportKind) (number : ℕ) → matches store wasm wanted kind number ≡ true → Both (λ limits number. number < length later.memories) (memory_of wanted) (one_of export.Memory kind number)
  memory_suits same (import.Function index) export.Function number h = tt
  memory_suits same (import.Table limits) export.Table number h = tt
  memory_suits same (import.Memory limits) export.Memory number h =
      let known = passes_some (λ these. within these limits) (slice_get store.memories number) h in
      omega (arith, same, grows.memories, slice_get_within store.memories number known.0 known.1)
  memory_suits same (import.Global type) export.Global number h = tt
  memory_suits same wanted kind number h = absurd (cc h)

  -- space by space
  pub functions_suit : (imports : List Import) (given : List External) → AllZip (Suits store wasm) imports given → AllZip (OfIndex wasm later) (filter_map (λ entry. function_of entry.kind) imports) (of_kind export.Function given)
  functions_suit imports given h = zip_filtered (Suits store wasm) (OfIndex wasm later) (λ entry. function_of entry.kind) (λ value. one_of export.Function value.kind value.number) (λ wanted value m. function_suits wanted.kind value.kind value.number m) imports given h

  pub globals_suit : (imports : List Import) (given : List External) → AllZip (Suits store wasm) imports given → AllZip (λ type number. HasGlobal later number type) (filter_map (λ entry. global_of entry.kind) imports) (of_kind export.Global given)
  globals_suit imports given h = zip_filtered (Suits store wasm) (λ type number. HasGlobal later number type) (λ entry. global_of entry.kind) (λ value. one_of export.Global value.kind value.number) (λ wanted value m. global_suits wanted.kind value.kind value.number m) imports given h

  pub tables_suit : length store.tables ≡ length store.tree.tables → (imports : List Import) (given : List External) → AllZip (Suits store wasm) imports given → AllZip (λ limits number. number < length later.tables) (filter_map (λ entry. table_of entry.kind) imports) (of_kind export.Table given)
  tables_suit same imports given h = zip_filtered (Suits store wasm) (λ limits number. number < length later.tables) (λ entry. table_of entry.kind) (λ value. one_of export.Table value.kind value.number) (λ wanted value m. table_suits same wanted.kind value.kind value.number m) imports given h

  pub memories_suit : length store.memories ≡ length store.tree.memories → (imports : List Import) (given : List External) → AllZip (Suits store wasm) imports given → AllZip (λ limits number. number < length later.memories) (filter_map (λ entry. memory_of entry.kind) imports) (of_kind export.Memory given)
  memories_suit same imports given h = zip_filtered (Suits store wasm) (λ limits number. number < length later.memories) (λ entry. memory_of entry.kind) (λ value. one_of export.Memory value.kind value.number) (λ wanted value m. memory_suits same wanted.kind value.kind value.number m) imports given h
