-- What a part defines, in every later tree: its spaces name there what its indices name, so its bodies have their typings there.
use Rattle.std.proofs.Common.{◌≡◌, ◌∙◌, refl, sym, ap, subst, ℕ, zero, suc, ◌+◌, ◌-◌, ◌<◌, ◌≤◌, List, [], ◌∷◌, ◌++◌, length, get_or, map, Option, Some, slice_get, option_map, sum_by, replicate, arith, length-append}
use Rattle.std.specs.Prelude.{IfSome}
use Rattle.std.specs.List.{All, AllZip, range_with_len, enumerate_from, zip}
use Rattle.std.proofs.lemmas.List.{length-map, length-replicate}
use Rattle.std.proofs.lemmas.List.Concat.{length-flat_map}
use Rattle.std.proofs.lemmas.List.Elements.{All-head, All-tail, All-map, All-weaker}
use Rattle.std.proofs.lemmas.List.FromFn.{length-range_with_len, get_or-range_with_len, length-enumerate_from}
use Rattle.std.proofs.lemmas.List.Sums.{sum_by-cons}
use Rattle.std.proofs.lemmas.Option.{slice_get_within}
use Rattle.bl_base.proofs.OptionLemmas.{same_value}
use Rattle.bl_base.proofs.Lists.{get_mapped, zip_append, all_get}
use Rattle.bl_wasm.specs.Linked.{HasImmediates, IsFunction, function_type, global_type, seen, shared_in}
use Rattle.bl_wasm.specs.Typing.{Spaces, Types, integer, placed}
use Rattle.bl_wasm.specs.Validity.{HasTyping, IsFunctionType, IsInteger, IsValid, functions_of, globals_of, locals_of, memories_of, shared_by, tables_of, imported, function_of, table_of, memory_of, global_of}
use Rattle.bl_wasm.specs.declared.instruction.Instr.{Instr}
use Rattle.bl_wasm.specs.declared.instruction.Instr.TheVariants.{Block, Loop, If, Call, CallIndirect, GlobalGet, GlobalSet}
use Rattle.bl_wasm.specs.declared.types.WasmType.{WasmType}
use Rattle.bl_wasm.specs.declared.types.WasmType.TheVariants.{I32, I64, F32, F64}
use Rattle.bl_wasm.specs.declared.types.FuncType.{FuncType}
use Rattle.bl_wasm.specs.declared.types.GlobalType.{GlobalType}
use Rattle.bl_wasm.specs.declared.module.Code.{Code}
use Rattle.bl_wasm.specs.declared.module.DefinedGlobal.{DefinedGlobal}
use Rattle.bl_wasm.specs.declared.module.ExportKind.TheVariants as export
use Rattle.bl_wasm.specs.declared.module.LocalRun.{LocalRun}
use Rattle.bl_wasm.specs.declared.linked.Function.{Function}
use Rattle.bl_wasm.specs.declared.linked.Global.{Global}
use Rattle.bl_wasm.specs.declared.linked.Tree.{Tree}
use Rattle.bl_link.specs.TreeGrowth.{Grows}
use Rattle.bl_labels.specs.LabelledPlaces.{is_place}
use Rattle.bl_link.specs.Signatures.{signature, value_of}
use Rattle.bl_link.specs.Links.{count, function, global, indexed, memory, secret_if, table, with_part}
use Rattle.bl_link.specs.IndexSpaces.{External, Part, Spaces as PartSpaces, Store, names, number, of_kind, spaces_of}
use Rattle.bl_wasm.specs.IndexMaps.{NameAlike, Names, renamed, IsOfType}
use Rattle.bl_link.proofs.ImportMatchLemmas.{HasGlobal, OfIndex, Suits, functions_suit, globals_suit, tables_suit, memories_suit, made_type, made_global}
use Rattle.bl_link.proofs.NumberedLists.{by_place, get_left, get_numbered, get_right, zip_range}
use Rattle.bl_wasm.proofs.IndexMapLemmas.{carries}

-- ---- types of integers

integer_value : (kind : WasmType) → IsInteger kind → integer (value_of kind) ≡ kind
integer_value I32 h = refl
integer_value I64 h = refl
integer_value F32 h = absurd h
integer_value F64 h = absurd h

pub integer_values : (kinds : List WasmType) → All IsInteger kinds → map integer (map value_of kinds) ≡ kinds
integer_values [] all = refl
integer_values (kind ∷ kinds) all =
    ap (λ (k : WasmType). k ∷ map integer (map value_of kinds)) (integer_value kind (All-head IsInteger kind kinds all))
    ∙ ap (λ (ks : List WasmType). kind ∷ ks) (integer_values kinds (All-tail IsInteger kind kinds all))

same_signature : (type : FuncType) → IsFunctionType type → function_type (signature type) ≡ type
same_signature type is = made_type (map integer (map value_of type.params)) (map integer (map value_of type.results)) type (integer_values type.params is.params) (integer_values type.results is.results)

-- ---- growing

pub grows_itself : (tree : Tree) → Grows tree tree
grows_itself tree = record { types = λ i type h. h; functions = λ i f h. h; globals = λ i g h. h; tables = omega arith; memories = omega arith }

pub grows_on : (a b c : Tree) → Grows a b → Grows b c → Grows a c
grows_on a b c g h = record {
  types = λ i type found. h.types i type (g.types i type found);
  functions = λ i f found. h.functions i f (g.functions i f found);
  globals = λ i one found. h.globals i one (g.globals i one found);
  tables = omega (arith, g.tables, h.tables);
  memories = omega (arith, g.memories, h.memories);
}

pub grows_part : (store : Store) (part : Part) (spaces : PartSpaces) → Grows store.tree (with_part store part spaces).tree
grows_part store part spaces = record {
  types = λ i type found. get_left store.tree.types _ i type found;
  functions = λ i f found. get_left store.tree.functions _ i f found;
  globals = λ i g found. get_left store.tree.globals _ i g found;
  tables = omega (arith, length-append store.tree.tables (map table part.wasm.tables));
  memories = omega (arith, length-append store.tree.memories (map (memory part.labels) (indexed spaces.memories part.wasm.memories)));
}

-- ---- a part in a later tree

-- a length that is found
found_below : {A : Type 0} (xs : List A) (i n : ℕ) (x : A) → slice_get xs i ≡ Some x → length xs ≡ n → i < n
found_below xs i n x found same = omega (arith, same, slice_get_within xs i x found)

-- another item of the same place
pub at_place : {A : Type 0} (xs : List A) (n i : ℕ) → length xs ≡ n → i < n → (x : A) × (slice_get xs i ≡ Some x)
at_place [] n i same below = absurd (omega (arith, same, below))
at_place (x ∷ xs) n zero same below = (x, refl)
at_place (x ∷ xs) n (suc i) same below = at_place xs (n - 1) i (omega (arith, same)) (omega (arith, same, below))

pub pair_at : {A B : Type 0} (xs : List A) (ys : List B) (k : ℕ) (x : A) (y : B) → slice_get xs k ≡ Some x → slice_get ys k ≡ Some y → slice_get (zip xs ys) k ≡ Some (x, y)
pair_at [] ys k x y one two = absurd (cc)
pair_at (a ∷ xs) [] k x y one two = absurd (cc)
pair_at (a ∷ xs) (b ∷ ys) zero x y one two = cc
pair_at (a ∷ xs) (b ∷ ys) (suc k) x y one two = pair_at xs ys k x y one two

-- immediates stay
immediate : (names : Names) (item : Instr) → HasImmediates item → HasImmediates (renamed names item)
immediate names (Block type) h = tt
immediate names (Loop type) h = tt
immediate names (If type) h = tt
immediate names (Call function) h = tt
immediate names (CallIndirect type) h = tt
immediate names (GlobalGet global) h = tt
immediate names (GlobalSet global) h = tt
immediate names item h = h

run_lengths : (runs : List LocalRun) → sum_by (λ run. length (replicate run.count run.kind)) runs ≡ sum_by (λ run. run.count) runs
run_lengths [] = refl
run_lengths (run ∷ runs) = omega (arith, sum_by-cons (λ (run : LocalRun). length (replicate run.count run.kind)) run runs, sum_by-cons (λ (run : LocalRun). run.count) run runs, length-replicate run.count run.kind, run_lengths runs)

locals_length : (params : List WasmType) (code : Code) → length (params ++ locals_of code) ≡ length params + sum_by (λ run. run.count) code.locals
locals_length params code = omega (arith, length-append params (locals_of code), length-flat_map (λ (run : LocalRun). replicate run.count run.kind) code.locals, run_lengths code.locals)

-- one for each of what may be missing
one_each : {A B : Type 0} (f : ℕ → B) (o : Option (List A)) (xs : List A) → o ≡ Some xs → length (map f (range_with_len 0 (count o))) ≡ length xs
one_each f o xs found = length-map (range_with_len 0 (count o)) f ∙ length-range_with_len 0 (count o) ∙ ap count found

-- the first number of a space
first_number : {A : Type 0} (n : ℕ) (xs : List A) (ys : List ℕ) → AllZip (λ x number. number < n) xs ys → IfSome (slice_get ys 0) (λ number. number < n)
first_number n [] [] h = tt
first_number n [] (y ∷ ys) h = absurd h
first_number n (x ∷ xs) [] h = absurd h
first_number n (x ∷ xs) (y ∷ ys) h = h.0

-- one is seen where there is one
one_seen : {A : Type 0} (R : A → ℕ → Type 0) (xs : List A) (ys : List ℕ) → AllZip R xs ys → 1 ≤ length xs → 1 ≤ seen (slice_get ys 0)
one_seen R [] ys h some = absurd (omega (arith, some))
one_seen R (x ∷ xs) [] h some = absurd h
one_seen R (x ∷ xs) (y ∷ ys) h some = omega arith

-- what a part's bodies share in a tree
abbrev pub there : Tree → PartSpaces → Spaces
there later spaces = shared_in later (slice_get spaces.tables 0) (slice_get spaces.memories 0)

module _ (store : Store) (part : Part) (given : List External) (later : Tree)
    (now : Grows (with_part store part (spaces_of store part.wasm given)).tree later)
    (suit : AllZip (Suits store part.wasm) part.wasm.imports given) (valid : IsValid part.wasm)
    (tables : length store.tables ≡ length store.tree.tables) (memories : length store.memories ≡ length store.tree.memories) where
  before : Grows store.tree later
  before = grows_on store.tree (with_part store part (spaces_of store part.wasm given)).tree later (grows_part store part (spaces_of store part.wasm given)) now

  -- a type
  type_found : (index : ℕ) (type : FuncType) → slice_get part.wasm.types index ≡ Some type → slice_get later.types (number (spaces_of store part.wasm given).types index) ≡ Some (signature type)
  type_found index type found =
      let e : get_or (range_with_len (length store.tree.types) (length part.wasm.types)) index 0 ≡ length store.tree.types + index =
      get_or-range_with_len (length store.tree.types) (length part.wasm.types) index 0 (slice_get_within part.wasm.types index type found) in
      rw e (now.types (length store.tree.types + index) (signature type)
      (get_right store.tree.types (map signature part.wasm.types) index ∙ get_mapped signature part.wasm.types index type found))

  -- a function that the part defines
  defined_function : (i index : ℕ) → slice_get part.wasm.functions i ≡ Some index → OfIndex part.wasm later index (length store.tree.functions + i)
  defined_function i index found type exists =
      let body = at_place part.wasm.bodies (length part.wasm.functions) i (sym valid.counts) (slice_get_within part.wasm.functions i index found) in
      let spaces : PartSpaces = spaces_of store part.wasm given in
      let first : ℕ = length spaces.functions - length (zip part.wasm.functions part.wasm.bodies) in
      let one : Function = function part.wasm.types part.labels spaces (first + i, (index, body.0)) in
      let at : slice_get (store.tree.functions ++ map (function part.wasm.types part.labels spaces) (indexed spaces.functions (zip part.wasm.functions part.wasm.bodies))) (length store.tree.functions + i) ≡ Some one =
      get_right store.tree.functions (map (function part.wasm.types part.labels spaces) (indexed spaces.functions (zip part.wasm.functions part.wasm.bodies))) i
      ∙ get_mapped (function part.wasm.types part.labels spaces) (indexed spaces.functions (zip part.wasm.functions part.wasm.bodies)) i (first + i, (index, body.0))
      (get_numbered first (zip part.wasm.functions part.wasm.bodies) i (index, body.0) (pair_at part.wasm.functions part.wasm.bodies i index body.0 found body.1)) in
      (one, signature type, now.functions (length store.tree.functions + i) one at, type_found index type exists, same_signature type (all_get IsFunctionType part.wasm.types index type valid.types exists))

  -- a global that the part defines
  defined_global : (i : ℕ) (type : GlobalType) → slice_get (map (λ global. global.kind) part.wasm.globals) i ≡ Some type → HasGlobal later (length store.tree.globals + i) type
  defined_global i type found =
      let spaces : PartSpaces = spaces_of store part.wasm given in
      let source = at_place part.wasm.globals (length part.wasm.globals) i refl (found_below (map (λ (global : DefinedGlobal). global.kind) part.wasm.globals) i (length part.wasm.globals) type found (length-map part.wasm.globals (λ (global : DefinedGlobal). global.kind))) in
      let kind : source.0.kind ≡ type = same_value (slice_get (map (λ (global : DefinedGlobal). global.kind) part.wasm.globals) i) source.0.kind type (get_mapped (λ (global : DefinedGlobal). global.kind) part.wasm.globals i source.0 source.1) found in
      let first : ℕ = length spaces.globals - length part.wasm.globals in
      let one : Global = global store.tree.globals part.labels spaces (first + i, source.0) in
      let at : slice_get (store.tree.globals ++ map (global store.tree.globals part.labels spaces) (indexed spaces.globals part.wasm.globals)) (length store.tree.globals + i) ≡ Some one =
      get_right store.tree.globals (map (global store.tree.globals part.labels spaces) (indexed spaces.globals part.wasm.globals)) i
      ∙ get_mapped (global store.tree.globals part.labels spaces) (indexed spaces.globals part.wasm.globals) i (first + i, source.0) (get_numbered first part.wasm.globals i source.0 source.1) in
      let integers : IsInteger source.0.kind.kind = subst (λ (type : GlobalType). IsInteger type.kind) (sym kind) (defined_kind i type found) in
      (one, now.globals (length store.tree.globals + i) one at, made_global (integer (value_of source.0.kind.kind)) source.0.kind.mutable source.0.kind (integer_value source.0.kind.kind integers) refl ∙ kind)
    where
      defined_kind : (i : ℕ) (type : GlobalType) → slice_get (map (λ (global : DefinedGlobal). global.kind) part.wasm.globals) i ≡ Some type → IsInteger type.kind
      defined_kind i type found = all_get (λ (type : GlobalType). IsInteger type.kind) (globals_of part.wasm) (length (imported global_of part.wasm) + i) type valid.kinds (get_right (imported global_of part.wasm) (map (λ (global : DefinedGlobal). global.kind) part.wasm.globals) i ∙ found)

  -- the spaces
  pub functions_numbered : AllZip (OfIndex part.wasm later) (functions_of part.wasm) (spaces_of store part.wasm given).functions
  functions_numbered = zip_append (OfIndex part.wasm later) (imported function_of part.wasm) part.wasm.functions (of_kind export.Function given) (range_with_len (length store.tree.functions) (length part.wasm.functions))
      (functions_suit store part.wasm later before part.wasm.imports given suit) (zip_range (OfIndex part.wasm later) part.wasm.functions (length store.tree.functions) defined_function)

  pub globals_numbered : AllZip (λ type number. HasGlobal later number type) (globals_of part.wasm) (spaces_of store part.wasm given).globals
  globals_numbered =
      let defined : AllZip (λ type number. HasGlobal later number type) (map (λ global. global.kind) part.wasm.globals) (range_with_len (length store.tree.globals) (length (map (λ (global : DefinedGlobal). global.kind) part.wasm.globals))) =
      zip_range (λ type number. HasGlobal later number type) (map (λ global. global.kind) part.wasm.globals) (length store.tree.globals) defined_global in
      zip_append (λ type number. HasGlobal later number type) (imported global_of part.wasm) (map (λ global. global.kind) part.wasm.globals) (of_kind export.Global given) (range_with_len (length store.tree.globals) (length part.wasm.globals))
      (globals_suit store part.wasm later before part.wasm.imports given suit)
      (subst (λ n. AllZip (λ type number. HasGlobal later number type) (map (λ global. global.kind) part.wasm.globals) (range_with_len (length store.tree.globals) n)) (length-map part.wasm.globals (λ (global : DefinedGlobal). global.kind)) defined)

  tables_numbered : AllZip (λ limits number. number < length later.tables) (tables_of part.wasm) (spaces_of store part.wasm given).tables
  tables_numbered =
      zip_append (λ limits number. number < length later.tables) (imported table_of part.wasm) part.wasm.tables (of_kind export.Table given) (range_with_len (length store.tree.tables) (length part.wasm.tables))
      (tables_suit store part.wasm later before tables part.wasm.imports given suit)
      (zip_range (λ limits number. number < length later.tables) part.wasm.tables (length store.tree.tables) (λ i limits found. omega (arith, now.tables, slice_get_within part.wasm.tables i limits found, length-append store.tree.tables (map table part.wasm.tables), length-map part.wasm.tables table)))

  memories_numbered : AllZip (λ limits number. number < length later.memories) (memories_of part.wasm) (spaces_of store part.wasm given).memories
  memories_numbered =
      let first : ℕ = length (spaces_of store part.wasm given).memories - length part.wasm.memories in
      zip_append (λ limits number. number < length later.memories) (imported memory_of part.wasm) part.wasm.memories (of_kind export.Memory given) (range_with_len (length store.tree.memories) (length part.wasm.memories))
      (memories_suit store part.wasm later before memories part.wasm.imports given suit)
      (zip_range (λ limits number. number < length later.memories) part.wasm.memories (length store.tree.memories) (λ i limits found. omega (arith, now.memories, slice_get_within part.wasm.memories i limits found, length-append store.tree.memories (map (memory part.labels) (enumerate_from first part.wasm.memories)), length-map (enumerate_from first part.wasm.memories) (memory part.labels), length-enumerate_from first part.wasm.memories)))

  function_alike : (index : ℕ) (type : FuncType) → IsOfType (shared_by part.wasm) index type → IsOfType (there later (spaces_of store part.wasm given)) (number (spaces_of store part.wasm given).functions index) type
  function_alike index type h =
      let one = by_place (OfIndex part.wasm later) (functions_of part.wasm) (spaces_of store part.wasm given).functions functions_numbered index h.0 h.1 type h.2 in (
        one.0.type_index,
        get_mapped (λ (function : Function). function.type_index) later.functions (number (spaces_of store part.wasm given).functions index) one.0 one.2,
        get_mapped function_type later.types one.0.type_index one.1 one.3 ∙ ap (λ (t : FuncType). Some t) one.4,
      )

  -- the spaces name there what the indices name here
  pub alike : NameAlike (names (spaces_of store part.wasm given)) (shared_by part.wasm) (there later (spaces_of store part.wasm given))
  alike = record {
    types = λ index type found. get_mapped function_type later.types (number (spaces_of store part.wasm given).types index) (signature type) (type_found index type found)
        ∙ ap (λ (t : FuncType). Some t) (same_signature type (all_get IsFunctionType part.wasm.types index type valid.types found));
    functions = λ index type h. function_alike index type h;
    globals = λ index type found. let one = by_place (λ type number. HasGlobal later number type) (globals_of part.wasm) (spaces_of store part.wasm given).globals globals_numbered index type found in
        get_mapped global_type later.globals (number (spaces_of store part.wasm given).globals index) one.0 one.1 ∙ ap (λ (t : GlobalType). Some t) one.2;
    tables = λ some. one_seen (λ limits number. number < length later.tables) (tables_of part.wasm) (spaces_of store part.wasm given).tables tables_numbered some;
    memories = λ some. one_seen (λ limits number. number < length later.memories) (memories_of part.wasm) (spaces_of store part.wasm given).memories memories_numbered some;
  }

  -- a function that the part defines, by its number among those
  pub is_function : (at : ℕ) (i : ℕ) → (t : HasTyping part.wasm i) → All HasImmediates t.code.items → length t.type.params + sum_by (λ run. run.count) t.code.locals ≤ 4096
      → IsFunction later (function part.wasm.types part.labels (spaces_of store part.wasm given) (at, (t.index, t.code)))
  is_function at i t immediates few =
      let spaces : PartSpaces = spaces_of store part.wasm given in
      let is : IsFunctionType t.type = all_get IsFunctionType part.wasm.types t.index t.type valid.types t.exists in
      let typing : Types (placed (there later spaces) (t.type.params ++ locals_of t.code) t.type.results) [] (map (renamed (names spaces)) t.code.items) t.places =
      carries (names spaces) (shared_by part.wasm) (there later spaces) alike (t.type.params ++ locals_of t.code) t.type.results t.code.items [] t.places t.typing.1 in
      let with_params : Types (placed (there later spaces) (map integer (map value_of t.type.params) ++ locals_of t.code) t.type.results) [] (map (renamed (names spaces)) t.code.items) t.places =
      subst (λ (params : List WasmType). Types (placed (there later spaces) (params ++ locals_of t.code) t.type.results) [] (map (renamed (names spaces)) t.code.items) t.places) (sym (integer_values t.type.params is.params)) typing in
      let with_results : Types (placed (there later spaces) (map integer (map value_of t.type.params) ++ locals_of t.code) (map integer (map value_of t.type.results))) [] (map (renamed (names spaces)) t.code.items) t.places =
      subst (λ (results : List WasmType). Types (placed (there later spaces) (map integer (map value_of t.type.params) ++ locals_of t.code) results) [] (map (renamed (names spaces)) t.code.items) t.places) (sym (integer_values t.type.results is.results)) with_params in
      record {
        type = signature t.type;
        exists = type_found t.index t.type t.exists;
        places = t.places;
        typing = (t.typing.0, with_results);
        immediates = All-map HasImmediates (renamed (names spaces)) t.code.items (All-weaker HasImmediates (λ item. HasImmediates (renamed (names spaces) item)) (immediate (names spaces)) t.code.items immediates);
        labels = one_each (λ param. secret_if (is_place part.labels.params at param)) (option_map (λ type. type.params) (slice_get part.wasm.types t.index)) t.type.params (ap (option_map (λ type. type.params)) t.exists) ∙ sym (length-map t.type.params value_of);
        demanded = one_each (is_place part.labels.results at) (option_map (λ type. type.results) (slice_get part.wasm.types t.index)) t.type.results (ap (option_map (λ type. type.results)) t.exists) ∙ sym (length-map t.type.results value_of);
        room = omega (arith, few, locals_length (map integer (map value_of t.type.params)) t.code, length-map (map value_of t.type.params) integer, length-map t.type.params value_of);
        memory = first_number (length later.memories) (memories_of part.wasm) spaces.memories memories_numbered;
        table = first_number (length later.tables) (tables_of part.wasm) spaces.tables tables_numbered;
      }
