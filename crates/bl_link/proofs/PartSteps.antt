-- One part more keeps what holds of all that is linked.
use Rattle.std.proofs.Common.{◌≡◌, ◌∙◌, refl, sym, ap, subst, ℕ, ◌+◌, ◌-◌, ◌*◌, ◌^◌, ◌<◌, ◌≤◌, min, List, [], ◌∷◌, ◌++◌, length, get_or, map, true, false, Bool, Option, Some, None, slice_get, option_map, filter_map, arith, length-append}
use Rattle.std.specs.Prelude.{IfSome, sum_by, unwrap_or}
use Rattle.std.specs.List.{All, AllZip, Contains, range_with_len, enumerate_from, zip}
use Rattle.std.proofs.lemmas.List.{length-map, length-replicate, get_or_append_left}
use Rattle.std.proofs.lemmas.List.Elements.{All-head, All-tail, All-cons, All-nil, All-append, All-map, All-weaker, All-replicate, Contains-append_left, Contains-push}
use Rattle.std.proofs.lemmas.List.FromFn.{length-enumerate_from}
use Rattle.std.proofs.lemmas.Slice.Zip.{length-zip}
use Rattle.std.proofs.lemmas.Option.{slice_get_within}
use Rattle.bl_base.specs.Fits.{ArgumentFits}
use Rattle.bl_base.specs.declared.names.Label.TheVariants.{Secret}
use Rattle.bl_base.specs.declared.names.ValueType.{ValueType}
use Rattle.bl_base.specs.declared.names.ValueType.TheVariants as value
use Rattle.bl_wasm.specs.Exports.{AreDistinct}
use Rattle.bl_wasm.specs.Linked.{HasImmediates, IsFunction, IsMemory}
use Rattle.bl_wasm.specs.Typing.{integer}
use Rattle.bl_wasm.specs.Validity.{HasTyping, IsElement, IsInitial, functions_of, imported, memory_of, table_of, function_of, global_of, space_of, IsMemory as IsMemoryType}
use Rattle.bl_wasm.specs.declared.instruction.Instr.{Instr}
use Rattle.bl_wasm.specs.declared.instruction.Instr.TheVariants.{I32Const, I64Const, GlobalGet}
use Rattle.bl_wasm.specs.declared.types.WasmType.{WasmType}
use Rattle.bl_wasm.specs.declared.types.WasmType.TheVariants.{I32, I64}
use Rattle.bl_wasm.specs.declared.types.FuncType.{FuncType}
use Rattle.bl_wasm.specs.declared.types.GlobalType.{GlobalType}
use Rattle.bl_wasm.specs.declared.types.Limits.{Limits}
use Rattle.bl_wasm.specs.declared.module.Code.{Code}
use Rattle.bl_wasm.specs.declared.module.DefinedGlobal.{DefinedGlobal}
use Rattle.bl_wasm.specs.declared.module.Export.{Export}
use Rattle.bl_wasm.specs.declared.module.ExportKind.{ExportKind}
use Rattle.bl_wasm.specs.declared.module.ExportKind.TheVariants as export
use Rattle.bl_wasm.specs.declared.linked.Function.{Function}
use Rattle.bl_wasm.specs.declared.linked.Global.{Global}
use Rattle.bl_wasm.specs.declared.linked.Signature.{Signature}
use Rattle.bl_wasm.specs.declared.linked.Tree.{Tree}
use Rattle.bl_link.specs.TreeGrowth.{Grows}
use Rattle.bl_labels.specs.declared.labels.Labels.{Labels}
use Rattle.bl_labels.specs.LabelledPlaces.{is_listed}
use Rattle.bl_base.specs.Quantity.{limit_of}
use Rattle.bl_base.specs.declared.quantity.Quantity.TheVariants.{Locals, Results}
use Rattle.bl_base.proofs.Lists.{mapped_get, get_mapped, all_from, zip_length, all_get}
use Rattle.bl_base.proofs.OptionLemmas.{same_value}
use Rattle.bl_wasm.specs.Limits.{local_count, param_count}
use Rattle.bl_link.specs.Linkable.{IsPart, IsSound, NoSolidus}
use Rattle.bl_link.specs.Links.{exported, constant_value, function, global, indexed, memory, of_function, pair, secret_if, table, with_part}
use Rattle.bl_link.specs.IndexSpaces.{External, Part, Spaces, Store, number, of_kind, space, spaces_of}
use Rattle.bl_link.specs.Signatures.{signature, value_of}
use Rattle.bl_link.specs.Stores.{IsStore, IsTable, OfPart, ValueOfPart}
use Rattle.bl_link.proofs.ImportMatchLemmas.{HasGlobal, OfIndex, Suits, globals_suit}
use Rattle.bl_link.proofs.NameLemmas.{before_solidus, behind_solidus, came, apart_append, apart_map, distinct_filtered}
use Rattle.bl_link.proofs.NumberedLists.{by_place, get_numbered, get_right}
use Rattle.bl_link.proofs.PartDefinitions.{at_place, functions_numbered, grows_itself, grows_on, grows_part, is_function, pair_at}
use Rattle.bl_link.proofs.SegmentLemmas.{NamesFunctions}

-- ---- lists

all_indexed : {A : Type 0} (Q : A → Type 0) (P : ℕ × A → Type 0) → ((k : ℕ) (x : A) → Q x → P (k, x)) → (n : ℕ) (xs : List A) → All Q xs → All P (enumerate_from n xs)
all_indexed Q P each n [] all = All-nil P
all_indexed Q P each n (x ∷ xs) all = All-cons P (n, x) (enumerate_from (n + 1) xs) (each n x (All-head Q x xs all)) (all_indexed Q P each (n + 1) xs (All-tail Q x xs all))

-- what is made of each with its index
all_made : {A B : Type 0} (Q : A → Type 0) (P : B → Type 0) (f : ℕ × A → B) → ((k : ℕ) (x : A) → Q x → P (f (k, x))) → (n : ℕ) (xs : List A) → All Q xs → All P (map f (enumerate_from n xs))
all_made Q P f each n xs all = All-map P f (enumerate_from n xs) (all_indexed Q (λ p. P (f p)) each n xs all)

all_right : {A : Type 0} (P : A → Type 0) (xs ys : List A) → All P (xs ++ ys) → All P ys
all_right P xs ys all = all_from P ys (λ i y found. all_get P (xs ++ ys) (length xs + i) y all (get_right xs ys i ∙ found))

-- ---- memories and tables

kept_within : (low : ℕ) (max : Option ℕ) → low ≤ 256 → IfSome max (λ max. low ≤ max) → (low ≤ min 256 (unwrap_or max 256)) × (min 256 (unwrap_or max 256) ≤ 256)
kept_within low None below limits = (omega (arith, below), omega arith)
kept_within low (Some max) below limits = (omega (arith, below, limits), omega arith)

is_memory : (labels : Labels) (k : ℕ) (limits : Limits) → limits.min ≤ 256 → IsMemoryType limits → IsMemory (memory labels (k, limits))
is_memory labels k limits below is = record {
  first = (kept_within limits.min limits.max below is.limits).0;
  most = (kept_within limits.min limits.max below is.limits).1;
  size = length-replicate (limits.min * 65536) 0;
  bytes = All-replicate (λ byte. byte < 2 ^ 8) (limits.min * 65536) 0 (omega arith);
}

-- ---- globals

value_again : (kind : ValueType) → value_of (integer kind) ≡ kind
value_again value.I32 = refl
value_again value.I64 = refl

secret : (b : Bool) → secret_if b ≡ Secret → b ≡ true
secret true h = refl
secret false h = absurd (cc h)

-- a look-up in a list that goes on
get_front : (xs ys : List ℕ) (i : ℕ) → i < length xs → get_or (xs ++ ys) i 0 ≡ get_or xs i 0
get_front xs ys i below = get_or_append_left xs ys 0 i below

-- what an initialiser gives is of its type
module _ (imports : List GlobalType) (tree : Tree) (spaces : Spaces)
    (known : (x : ℕ) (type : GlobalType) → slice_get imports x ≡ Some type → HasGlobal tree (number spaces.globals x) type)
    (fit : All (λ global. ArgumentFits global.kind global.initial) tree.globals) where
  initial_fits : (kind : WasmType) (items : List Instr) → IsInitial imports kind items → All HasImmediates items → ArgumentFits (value_of kind) (constant_value tree.globals spaces items)
  initial_fits I32 (I32Const n ∷ []) h all = All-head HasImmediates (I32Const n) [] all
  initial_fits I64 (I64Const n ∷ []) h all = All-head HasImmediates (I64Const n) [] all
  initial_fits kind (GlobalGet x ∷ []) h all =
      let one = known x (record { kind = kind; mutable = false }) h in
      let same : integer one.0.kind ≡ kind = ap (λ (type : GlobalType). type.kind) one.2 in
      let kinds : one.0.kind ≡ value_of kind = sym (value_again one.0.kind) ∙ ap value_of same in
      let value : one.0.initial ≡ constant_value tree.globals spaces (GlobalGet x ∷ []) = sym (ap (λ (o : Option Global). unwrap_or (option_map (λ global. global.initial) o) 0) one.1) in
      let fits : ArgumentFits one.0.kind one.0.initial = all_get (λ (global : Global). ArgumentFits global.kind global.initial) tree.globals (number spaces.globals x) one.0 fit one.1 in
      subst (λ v. ArgumentFits (value_of kind) v) value (subst (λ k. ArgumentFits k one.0.initial) kinds fits)
  initial_fits kind items h all = absurd h

-- ---- exported functions

pair_is : (name these : List ℕ) (kind : ExportKind) (spaces : Spaces) (index : ℕ) (a : List ℕ × ℕ) → of_function kind (name ++ 0x2F ∷ these, number (space spaces kind) index) ≡ Some a
    → (kind ≡ export.Function) × (a.0 ≡ name ++ 0x2F ∷ these) × (a.1 ≡ number spaces.functions index)
pair_is name these export.Function spaces index a h = let e : (name ++ 0x2F ∷ these, number spaces.functions index) ≡ a = cc in (refl, ap (λ (p : List ℕ × ℕ). p.0) (sym e), ap (λ (p : List ℕ × ℕ). p.1) (sym e))
pair_is name these export.Table spaces index a h = absurd (cc h)
pair_is name these export.Memory spaces index a h = absurd (cc h)
pair_is name these export.Global spaces index a h = absurd (cc h)

-- slots of a longer list of functions
slot_grows : (m n : ℕ) → m ≤ n → (slot : Option ℕ) → IfSome slot (λ function. function < m) → IfSome slot (λ function. function < n)
slot_grows m n le None h = h
slot_grows m n le (Some function) h = omega (arith, le, h)

-- ---- a part

module _ (done : List Part) (store : Store) (part : Part) (given : List External) (is : IsStore done store) (good : IsPart part) (sound : IsSound part)
    (suit : AllZip (Suits store part.wasm) part.wasm.imports given)
    (fresh : (p : Part) → Contains done p → NoSolidus p.name × (p.name ≡ part.name → ⊥)) where
  -- the tree with what the part defines
  abbrev behind : Store
  behind = with_part store part (spaces_of store part.wasm given)

  count_zip : length (zip part.wasm.functions part.wasm.bodies) ≡ length part.wasm.functions
  count_zip = omega (arith, length-zip part.wasm.functions part.wasm.bodies, sound.typed.rules.counts)

  new_functions : (later : Tree) → Grows behind.tree later
      → All (IsFunction later) (map (function part.wasm.types part.labels (spaces_of store part.wasm given)) (indexed (spaces_of store part.wasm given).functions (zip part.wasm.functions part.wasm.bodies)))
  new_functions later grows =
      let spaces : Spaces = spaces_of store part.wasm given in
      let first : ℕ = length spaces.functions - length (zip part.wasm.functions part.wasm.bodies) in
      let all : List (ℕ × (ℕ × Code)) = enumerate_from first (zip part.wasm.functions part.wasm.bodies) in
      all_from (IsFunction later) (map (function part.wasm.types part.labels spaces) all) (λ i one found.
      let below : i < length part.wasm.functions = omega (arith, slice_get_within (map (function part.wasm.types part.labels spaces) all) i one found, length-map all (function part.wasm.types part.labels spaces), length-enumerate_from first (zip part.wasm.functions part.wasm.bodies), count_zip) in
      let t : HasTyping part.wasm i = sound.typed.functions i below in
      let pair : slice_get (zip part.wasm.functions part.wasm.bodies) i ≡ Some (t.index, t.code) = pair_at part.wasm.functions part.wasm.bodies i t.index t.code t.named t.body in
      let there : slice_get (map (function part.wasm.types part.labels spaces) all) i ≡ Some (function part.wasm.types part.labels spaces (first + i, (t.index, t.code))) =
      get_mapped (function part.wasm.types part.labels spaces) all i (first + i, (t.index, t.code)) (get_numbered first (zip part.wasm.functions part.wasm.bodies) i (t.index, t.code) pair) in
      let few : param_count (Some t.type) + sum_by (λ run. run.count) t.code.locals ≤ limit_of Locals = subst (λ (o : Option FuncType). param_count o + sum_by (λ run. run.count) t.code.locals ≤ limit_of Locals) t.exists
      (all_get (λ defined. local_count part.wasm.types defined ≤ limit_of Locals) (zip part.wasm.functions part.wasm.bodies) i (t.index, t.code) good.locals pair) in
      subst {A = Function} (IsFunction later) {x = function part.wasm.types part.labels spaces (first + i, (t.index, t.code))} {y = one} (same_value (slice_get (map (function part.wasm.types part.labels spaces) all) i) (function part.wasm.types part.labels spaces (first + i, (t.index, t.code))) one there found)
      (is_function store part given later grows suit sound.typed.rules is.tables is.sizes (first + i) i t (all_get (λ (code : Code). All HasImmediates code.items) part.wasm.bodies i t.code sound.widths.bodies t.body) few))

  -- a function that the part names
  function_number : (index : ℕ) → index < length (functions_of part.wasm) → number (spaces_of store part.wasm given).functions index < length behind.tree.functions
  function_number index below =
      let type = at_place (functions_of part.wasm) (length (functions_of part.wasm)) index refl below in
      let exists = at_place part.wasm.types (length part.wasm.types) type.0 refl (all_get (λ index. index < length part.wasm.types) (functions_of part.wasm) index type.0 sound.typed.rules.functions type.1) in
      let one = by_place (OfIndex part.wasm behind.tree) (functions_of part.wasm) (spaces_of store part.wasm given).functions
      (functions_numbered store part given behind.tree (grows_itself behind.tree) suit sound.typed.rules is.tables is.sizes) index type.0 type.1 exists.0 exists.1 in
      slice_get_within behind.tree.functions (number (spaces_of store part.wasm given).functions index) one.0 one.2

  -- a global that the part imports
  known_global : (x : ℕ) (type : GlobalType) → slice_get (imported global_of part.wasm) x ≡ Some type → HasGlobal store.tree (number (spaces_of store part.wasm given).globals x) type
  known_global x type found =
      let numbered = globals_suit store part.wasm store.tree (grows_itself store.tree) part.wasm.imports given suit in
      let same : get_or (of_kind export.Global given ++ range_with_len (length store.tree.globals) (length part.wasm.globals)) x 0 ≡ get_or (of_kind export.Global given) x 0 =
      get_front (of_kind export.Global given) (range_with_len (length store.tree.globals) (length part.wasm.globals)) x
      (omega (arith, slice_get_within (imported global_of part.wasm) x type found, zip_length (λ type number. HasGlobal store.tree number type) (imported global_of part.wasm) (of_kind export.Global given) numbered)) in
      rw same (by_place (λ type number. HasGlobal store.tree number type) (imported global_of part.wasm) (of_kind export.Global given) numbered x type found)

  new_globals : (P : Global → Type 0) → ((k : ℕ) (defined : DefinedGlobal) → IsInitial (imported global_of part.wasm) defined.kind.kind defined.initial → All HasImmediates defined.initial → P (global store.tree.globals part.labels (spaces_of store part.wasm given) (k, defined)))
      → All P (map (global store.tree.globals part.labels (spaces_of store part.wasm given)) (indexed (spaces_of store part.wasm given).globals part.wasm.globals))
  new_globals P each =
      let spaces : Spaces = spaces_of store part.wasm given in
      all_made (λ defined. IsInitial (imported global_of part.wasm) defined.kind.kind defined.initial × All HasImmediates defined.initial) P (global store.tree.globals part.labels spaces) (λ k defined h. each k defined h.0 h.1)
      (length spaces.globals - length part.wasm.globals) part.wasm.globals
      (λ k d below. (sound.typed.rules.initials k d below, sound.widths.initials k d below))

  new_memories : All IsMemory (map (memory part.labels) (indexed (spaces_of store part.wasm given).memories part.wasm.memories))
  new_memories =
      all_made (λ limits. (limits.min ≤ 256) × IsMemoryType limits) IsMemory (memory part.labels) (λ k limits h. is_memory part.labels k limits h.0 h.1)
      (length (spaces_of store part.wasm given).memories - length part.wasm.memories) part.wasm.memories
      (λ k d below. (good.memories k d below, all_right IsMemoryType (imported memory_of part.wasm) part.wasm.memories sound.typed.rules.memories k d below))

  -- the pairs of the part
  abbrev made : Export → Option (List ℕ × ℕ)
  made entry = pair (exported part.name (spaces_of store part.wasm given) entry)

  made_is : (entry : Export) (a : List ℕ × ℕ) → made entry ≡ Some a → (entry.kind ≡ export.Function) × (a.0 ≡ part.name ++ 0x2F ∷ entry.name) × (a.1 ≡ number (spaces_of store part.wasm given).functions entry.index)
  made_is entry a h = pair_is part.name entry.name entry.kind (spaces_of store part.wasm given) entry.index a h

  pairs_exist : All (λ pair. pair.1 < length behind.tree.functions) (filter_map made part.wasm.exports)
  pairs_exist = all_from (λ pair. pair.1 < length behind.tree.functions) (filter_map made part.wasm.exports) (λ i a found.
      let c = came made part.wasm.exports i a found in
      let what = made_is c.source a c.gave in
      let below : c.source.index < length (functions_of part.wasm) = subst (λ (kind : ExportKind). c.source.index < space_of part.wasm kind) what.0
      (all_get (λ entry. entry.index < space_of part.wasm entry.kind) part.wasm.exports c.place c.source sound.typed.rules.exports c.found) in
      subst (λ n. n < length behind.tree.functions) (sym what.2) (function_number c.source.index below))

  pairs_distinct : AreDistinct (filter_map made part.wasm.exports)
  pairs_distinct = distinct_filtered (λ entry. entry.name) made
      (λ x a one y b two same. behind_solidus part.name x.name y.name (sym (made_is x a one).1 ∙ same ∙ (made_is y b two).1))
      part.wasm.exports sound.typed.rules.distinct

  pairs_named : All (OfPart (done ++ part ∷ [])) (filter_map made part.wasm.exports)
  pairs_named = all_from (OfPart (done ++ part ∷ [])) (filter_map made part.wasm.exports) (λ i a found.
      let c = came made part.wasm.exports i a found in
      (part, Contains-push done part, c.source.name, (made_is c.source a c.gave).1))

  pairs_apart : (i j : ℕ) (a b : List ℕ × ℕ) → slice_get store.tree.exports i ≡ Some a → slice_get (filter_map made part.wasm.exports) j ≡ Some b → a.0 ≡ b.0 → ⊥
  pairs_apart i j a b first second same =
      let old = all_get (OfPart done) store.tree.exports i a is.named first in
      let c = came made part.wasm.exports j b second in
      (fresh old.0 old.1).1 (before_solidus old.0.name part.name old.2 c.source.name (fresh old.0 old.1).0 good.name (sym old.3 ∙ same ∙ (made_is c.source b c.gave).1))

  values_apart : (i j : ℕ) (a b : List ℕ × External) → slice_get store.exports i ≡ Some a → slice_get (map (exported part.name (spaces_of store part.wasm given)) part.wasm.exports) j ≡ Some b → a.0 ≡ b.0 → ⊥
  values_apart i j a b first second same =
      let old = all_get (ValueOfPart done) store.exports i a is.values_named first in
      let x = mapped_get (exported part.name (spaces_of store part.wasm given)) part.wasm.exports j b second in
      (fresh old.0 old.1).1 (before_solidus old.0.name part.name old.2 x.0.name (fresh old.0 old.1).0 good.name (sym old.3 ∙ same ∙ ap (λ (v : List ℕ × External). v.0) (sym x.2)))

  grown : length store.tree.functions ≤ length behind.tree.functions
  grown = omega (arith, length-append store.tree.functions (map (function part.wasm.types part.labels (spaces_of store part.wasm given)) (indexed (spaces_of store part.wasm given).functions (zip part.wasm.functions part.wasm.bodies))))

  pub part_kept : IsStore (done ++ part ∷ []) behind
  part_kept =
      let spaces : Spaces = spaces_of store part.wasm given in
      let functions : List (ℕ × (ℕ × Code)) = enumerate_from (length spaces.functions - length (zip part.wasm.functions part.wasm.bodies)) (zip part.wasm.functions part.wasm.bodies) in
      let globals : List (ℕ × DefinedGlobal) = enumerate_from (length spaces.globals - length part.wasm.globals) part.wasm.globals in
      let memories : List (ℕ × Limits) = enumerate_from (length spaces.memories - length part.wasm.memories) part.wasm.memories in
      let more : length (done ++ part ∷ []) ≡ length done + 1 = length-append done (part ∷ []) in
      let made_functions : length (map (function part.wasm.types part.labels spaces) functions) ≡ length part.wasm.functions = omega (arith, length-map functions (function part.wasm.types part.labels spaces), length-enumerate_from (length spaces.functions - length (zip part.wasm.functions part.wasm.bodies)) (zip part.wasm.functions part.wasm.bodies), count_zip) in
      let made_globals : length (map (global store.tree.globals part.labels spaces) globals) ≡ length part.wasm.globals = omega (arith, length-map globals (global store.tree.globals part.labels spaces), length-enumerate_from (length spaces.globals - length part.wasm.globals) part.wasm.globals) in
      let made_memories : length (map (memory part.labels) memories) ≡ length part.wasm.memories = omega (arith, length-map memories (memory part.labels), length-enumerate_from (length spaces.memories - length part.wasm.memories) part.wasm.memories) in
      record {
        tables = omega (arith, is.tables, length-append store.tables part.wasm.tables, length-append store.tree.tables (map table part.wasm.tables), length-map part.wasm.tables table);
        sizes = omega (arith, is.sizes, length-append store.memories part.wasm.memories, length-append store.tree.memories (map (memory part.labels) memories), made_memories);
        types = All-append (λ type. length type.results ≤ 1024) store.tree.types (map signature part.wasm.types) is.types
            (All-map (λ (type : Signature). length type.results ≤ 1024) signature part.wasm.types
            (All-weaker (λ type. length type.results ≤ limit_of Results) (λ type. length (map value_of type.results) ≤ 1024) (λ type h. omega (arith, length-map type.results value_of, h)) part.wasm.types good.results));
        functions = λ later grows. All-append (IsFunction later) store.tree.functions (map (function part.wasm.types part.labels spaces) functions)
            (is.functions later (grows_on store.tree behind.tree later (grows_part store part spaces) grows)) (new_functions later grows);
        globals = All-append (λ global. ArgumentFits global.kind global.initial) store.tree.globals (map (global store.tree.globals part.labels spaces) globals) is.globals
            (new_globals (λ global. ArgumentFits global.kind global.initial) (λ k defined first all. initial_fits (imported global_of part.wasm) store.tree spaces known_global is.globals defined.kind.kind defined.initial first all));
        labels = All-append (λ global. global.label ≡ Secret → global.demanded ≡ false) store.tree.globals (map (global store.tree.globals part.labels spaces) globals) is.labels
            (new_globals (λ global. global.label ≡ Secret → global.demanded ≡ false) (λ k defined first all h. good.labels k (secret (is_listed part.labels.globals k) h)));
        memories = All-append IsMemory store.tree.memories (map (memory part.labels) memories) is.memories new_memories;
        slots = All-append (IsTable (length behind.tree.functions)) store.tree.tables (map table part.wasm.tables)
            (All-weaker (IsTable (length store.tree.functions)) (IsTable (length behind.tree.functions)) (λ slots h.
            All-weaker (λ slot. IfSome slot (λ function. function < length store.tree.functions)) (λ slot. IfSome slot (λ function. function < length behind.tree.functions)) (slot_grows (length store.tree.functions) (length behind.tree.functions) grown) slots h)
            store.tree.tables is.slots)
            (All-map (IsTable (length behind.tree.functions)) table part.wasm.tables (λ k d below. All-replicate (λ slot. IfSome slot (λ function. function < length behind.tree.functions)) (get_or part.wasm.tables k d).min None tt));
        exports = All-append (λ pair. pair.1 < length behind.tree.functions) store.tree.exports (filter_map made part.wasm.exports)
            (All-weaker (λ (pair : List ℕ × ℕ). pair.1 < length store.tree.functions) (λ pair. pair.1 < length behind.tree.functions) (λ pair h. omega (arith, h, grown)) store.tree.exports is.exports) pairs_exist;
        distinct = apart_append (λ (pair : List ℕ × ℕ). pair.0) store.tree.exports (filter_map made part.wasm.exports) is.distinct pairs_distinct pairs_apart;
        named = All-append (OfPart (done ++ part ∷ [])) store.tree.exports (filter_map made part.wasm.exports)
            (All-weaker (OfPart done) (OfPart (done ++ part ∷ [])) (λ pair h. (h.0, Contains-append_left done (part ∷ []) h.0 h.1, h.2, h.3)) store.tree.exports is.named) pairs_named;
        values_distinct = apart_append (λ (value : List ℕ × External). value.0) store.exports (map (exported part.name spaces) part.wasm.exports) is.values_distinct
            (apart_map (λ (entry : Export). entry.name) (λ (value : List ℕ × External). value.0) (exported part.name spaces) part.wasm.exports (λ x y same. behind_solidus part.name x.name y.name same) sound.typed.rules.distinct)
            values_apart;
        values_named = All-append (ValueOfPart (done ++ part ∷ [])) store.exports (map (exported part.name spaces) part.wasm.exports)
            (All-weaker (ValueOfPart done) (ValueOfPart (done ++ part ∷ [])) (λ value h. (h.0, Contains-append_left done (part ∷ []) h.0 h.1, h.2, h.3)) store.exports is.values_named)
            (all_from (ValueOfPart (done ++ part ∷ [])) (map (exported part.name spaces) part.wasm.exports) (λ i a found. let x = mapped_get (exported part.name spaces) part.wasm.exports i a found in (part, Contains-push done part, x.0.name, ap (λ (v : List ℕ × External). v.0) (sym x.2))));
        type_count = omega (arith, is.type_count, more, length-append store.tree.types (map signature part.wasm.types), length-map part.wasm.types signature, good.types);
        table_count = omega (arith, is.table_count, more, length-append store.tree.tables (map table part.wasm.tables), length-map part.wasm.tables table, sound.typed.rules.one_table, length-append (imported table_of part.wasm) part.wasm.tables);
        function_count = omega (arith, is.function_count, more, made_functions, length-append store.tree.functions (map (function part.wasm.types part.labels spaces) functions), good.functions, length-append (imported function_of part.wasm) part.wasm.functions);
        memory_count = omega (arith, is.memory_count, more, made_memories, length-append store.tree.memories (map (memory part.labels) memories), sound.typed.rules.one_memory, length-append (imported memory_of part.wasm) part.wasm.memories);
        global_count = omega (arith, is.global_count, more, made_globals, length-append store.tree.globals (map (global store.tree.globals part.labels spaces) globals), good.globals, length-append (imported global_of part.wasm) (map (λ (global : DefinedGlobal). global.kind) part.wasm.globals), length-map part.wasm.globals (λ (global : DefinedGlobal). global.kind));
      }

  -- the segments of the part name functions that exist
  pub segments_name : All (NamesFunctions (length behind.tree.functions) (spaces_of store part.wasm given)) part.wasm.elements
  segments_name = All-weaker (IsElement part.wasm) (NamesFunctions (length behind.tree.functions) (spaces_of store part.wasm given))
      (λ segment h. All-weaker (λ function. function < length (functions_of part.wasm)) (λ function. number (spaces_of store part.wasm given).functions function < length behind.tree.functions) (λ function below. function_number function below) segment.functions h.functions)
      part.wasm.elements sound.typed.rules.elements
