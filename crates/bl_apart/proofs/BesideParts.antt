-- What a part defines behind two others means the same.
use Rattle.std.proofs.Common.{◌≡◌, ◌∙◌, refl, sym, ap, ap₂, subst, ℕ, zero, suc, ◌+◌, ◌-◌, ◌<◌, List, [], ◌∷◌, length, get_or, map, Some, None, slice_get, arith, length-append}
use Rattle.std.specs.Prelude.{option_map, if◌then◌else◌}
use Rattle.std.specs.List.{AllZip, range_with_len, enumerate_from, zip}
use Rattle.std.proofs.lemmas.List.{length-map}
use Rattle.std.proofs.lemmas.List.FromFn.{length-enumerate_from}
use Rattle.std.proofs.lemmas.Option.{same_Some, slice_get_within}
use Rattle.std.proofs.lemmas.Slice.Zip.{length-zip}
use Rattle.bl_base.proofs.Lists.{zip_append, zip_each, zip_length}
use Rattle.bl_wasm.specs.IndexMaps.{Names, renamed, renamed_block_type}
use Rattle.bl_wasm.specs.Validity.{HasTyping, Typed, context_of, functions_of, globals_of}
use Rattle.bl_wasm.specs.declared.instruction.Instr.{Instr}
use Rattle.bl_wasm.specs.declared.instruction.Instr.TheVariants.{Block, Loop, If}
use Rattle.bl_wasm.specs.declared.types.BlockType.{BlockType}
use Rattle.bl_wasm.specs.declared.types.BlockType.TheVariants.{Empty, Value, Index}
use Rattle.bl_wasm.specs.declared.module.Code.{Code}
use Rattle.bl_wasm.specs.declared.module.ExportKind.{ExportKind}
use Rattle.bl_wasm.specs.declared.module.ExportKind.TheVariants as export
use Rattle.bl_wasm.specs.declared.module.Module.{Module}
use Rattle.bl_apart.specs.Beside.{Beside}
use Rattle.bl_rename.specs.Renamings.{function_by, slots_by}
use Rattle.bl_rename.proofs.NamedInRange.{body_same, made_same}
use Rattle.bl_labels.specs.declared.labels.Labels.{Labels}
use Rattle.bl_apart.specs.BesideStores.{Agree, NumberAlike, Same, Setting, SpacesAlike, StoresBeside, ValueAlike}
use Rattle.bl_link.specs.IndexSpaces.{names, number, of_kind, same_kind, spaces_of}
use Rattle.bl_apart.specs.LinkedTypes.{External, Spaces, Store}
use Rattle.bl_link.specs.Links.{function, indexed}
use Rattle.bl_link.proofs.NumberedLists.{Both, get_numbered, zip_filtered}
use Rattle.bl_link.proofs.PartDefinitions.{pair_at}

-- ---- lists

pub zip_numbered : (R : ℕ → ℕ → Type 0) (xs ys : List ℕ) (i : ℕ) → AllZip R xs ys → i < length xs → R (get_or xs i 0) (get_or ys i 0)
zip_numbered R [] ys i h lt = absurd (omega (arith, lt))
zip_numbered R (x ∷ xs) [] i h lt = absurd h
zip_numbered R (x ∷ xs) (y ∷ ys) zero h lt = h.0
zip_numbered R (x ∷ xs) (y ∷ ys) (suc i) h lt = zip_numbered R xs ys i h.1 (omega (arith, lt))

zip_ranges : (a b j n : ℕ) → AllZip (Same a b) (range_with_len (a + j) n) (range_with_len (b + j) n)
zip_ranges a b j zero = tt
zip_ranges a b j (suc n) =
    let e : a + (j + 1) ≡ a + j + 1 = omega arith in
    let f : b + (j + 1) ≡ b + j + 1 = omega arith in
    ((j, refl, refl), subst (λ x. AllZip (Same a b) (range_with_len x n) (range_with_len (b + j + 1) n)) e (subst (λ y. AllZip (Same a b) (range_with_len (a + (j + 1)) n) (range_with_len y n)) f (zip_ranges a b (j + 1) n)))

-- what is defined stands equally far behind
defined : {A B : Type 0} (f g : A → B) (stub here library there : List A) (n : ℕ) → Beside f g stub here library there
    → AllZip (Same (length stub) (length library)) (range_with_len (length here) n) (range_with_len (length there) n)
defined f g stub here library there n h =
    let a : length here ≡ length stub + length h.here = ap length h.client_is ∙ length-append stub h.here in
    let b : length there ≡ length library + length h.there = ap length h.whole_is ∙ length-append library h.there in
    let c : length h.there ≡ length h.here = sym (length-map h.there g) ∙ sym (ap length h.alike) ∙ length-map h.here f in
    subst (λ x. AllZip (Same (length stub) (length library)) (range_with_len x n) (range_with_len (length there) n)) (sym a)
    (subst (λ y. AllZip (Same (length stub) (length library)) (range_with_len (length stub + length h.here) n) (range_with_len y n)) (sym (b ∙ ap (λ k. length library + k) c))
    (zip_ranges (length stub) (length library) (length h.here) n))

pub images : {D E F : Type 0} (u p : E → F) (v q : D → E) (ds : List D) → ((k : ℕ) (d : D) → slice_get ds k ≡ Some d → u (v d) ≡ p (q d)) → map u (map v ds) ≡ map p (map q ds)
images u p v q [] h = refl
images u p v q (d ∷ ds) h = ap₂ (λ (x : _) (more : List _). x ∷ more) (h 0 d refl) (images u p v q ds (λ k d e. h (suc k) d e))

map_map : (n m o : Names) → ((item : Instr) → renamed n (renamed m item) ≡ renamed o item) → (items : List Instr) → map (renamed n) (map (renamed m) items) ≡ map (renamed o) items
map_map n m o h [] = refl
map_map n m o h (item ∷ items) = ap₂ (λ (x : Instr) (more : List Instr). x ∷ more) (h item) (map_map n m o h items)

-- ---- names through spaces

abbrev through : Names → Names → Names
through n m = record { type = λ i. n.type (m.type i); function = λ i. n.function (m.function i); global = λ i. n.global (m.global i) }

block_through : (n m : Names) (r : BlockType) → renamed_block_type n (renamed_block_type m r) ≡ renamed_block_type (through n m) r
block_through n m Empty = refl
block_through n m (Value type) = refl
block_through n m (Index i) = refl

item_through : (n m : Names) (item : Instr) → renamed n (renamed m item) ≡ renamed (through n m) item
item_through n m (Block r) = ap Block (block_through n m r)
item_through n m (Loop r) = ap Loop (block_through n m r)
item_through n m (If r) = ap If (block_through n m r)
item_through n m item = refl

first_same : (f g : ℕ → ℕ) (xs ys : List ℕ) → AllZip (λ m n. f m ≡ g n) xs ys → option_map f (slice_get xs 0) ≡ option_map g (slice_get ys 0)
first_same f g [] [] h = refl
first_same f g [] (y ∷ ys) h = absurd h
first_same f g (x ∷ xs) [] h = absurd h
first_same f g (x ∷ xs) (y ∷ ys) h = ap Some h.0

module _ (s : Setting) (agree : Agree s) where
  -- ---- numbers of what is given and defined

  of_one_kind : (kind k : ExportKind) (m n : ℕ) → NumberAlike s k m n → Both (NumberAlike s kind) (if same_kind kind k then Some m else None) (if same_kind kind k then Some n else None)
  of_one_kind export.Function export.Function m n h = h
  of_one_kind export.Table export.Table m n h = h
  of_one_kind export.Memory export.Memory m n h = h
  of_one_kind export.Global export.Global m n h = h
  of_one_kind kind k m n h = tt

  given_alike : (kind : ExportKind) (a b : List External) → AllZip (ValueAlike s) a b → AllZip (NumberAlike s kind) (of_kind kind a) (of_kind kind b)
  given_alike kind a b h =
      zip_filtered (ValueAlike s) (NumberAlike s kind) (λ value. if same_kind kind value.kind then Some value.number else None) (λ value. if same_kind kind value.kind then Some value.number else None)
      (λ a b h. subst (λ k. Both (NumberAlike s kind) (if same_kind kind a.kind then Some a.number else None) (if same_kind kind k then Some b.number else None)) h.kind (of_one_kind kind a.kind a.number b.number h.number)) a b h

  moved_function : (m n : ℕ) → Same (length s.stub.functions) (length s.library.functions) m n → NumberAlike s export.Function m n
  moved_function m n h = ap s.ours.names.function h.1 ∙ agree.functions h.0 ∙ sym (ap s.theirs.names.function h.2)

  pub spaces_alike : (stub here library there : Store) (wasm : Module) (a b : List External) → StoresBeside s stub here library there → AllZip (ValueAlike s) a b
      → SpacesAlike s (spaces_of here wasm a) (spaces_of there wasm b)
  spaces_alike stub here library there wasm a b beside h = record {
    types = defined (λ x. x) (λ x. x) s.stub.types here.tree.types s.library.types there.tree.types (length wasm.types) beside.trees.types;
    functions = zip_append (NumberAlike s export.Function) (of_kind export.Function a) (range_with_len (length here.tree.functions) (length wasm.functions)) (of_kind export.Function b) (range_with_len (length there.tree.functions) (length wasm.functions))
        (given_alike export.Function a b h)
        (zip_each (Same (length s.stub.functions) (length s.library.functions)) (NumberAlike s export.Function) moved_function
        (range_with_len (length here.tree.functions) (length wasm.functions)) (range_with_len (length there.tree.functions) (length wasm.functions))
        (defined (function_by s.ours) (function_by s.theirs) s.stub.functions here.tree.functions s.library.functions there.tree.functions (length wasm.functions) beside.trees.functions));
    tables = zip_append (NumberAlike s export.Table) (of_kind export.Table a) (range_with_len (length here.tree.tables) (length wasm.tables)) (of_kind export.Table b) (range_with_len (length there.tree.tables) (length wasm.tables))
        (given_alike export.Table a b h) (defined (slots_by s.ours) (slots_by s.theirs) s.stub.tables here.tree.tables s.library.tables there.tree.tables (length wasm.tables) beside.trees.tables);
    memories = zip_append (NumberAlike s export.Memory) (of_kind export.Memory a) (range_with_len (length here.tree.memories) (length wasm.memories)) (of_kind export.Memory b) (range_with_len (length there.tree.memories) (length wasm.memories))
        (given_alike export.Memory a b h) (defined (λ x. x) (λ x. x) s.stub.memories here.tree.memories s.library.memories there.tree.memories (length wasm.memories) beside.trees.memories);
    globals = zip_append (NumberAlike s export.Global) (of_kind export.Global a) (range_with_len (length here.tree.globals) (length wasm.globals)) (of_kind export.Global b) (range_with_len (length there.tree.globals) (length wasm.globals))
        (given_alike export.Global a b h) (defined (λ x. x) (λ x. x) s.stub.globals here.tree.globals s.library.globals there.tree.globals (length wasm.globals) beside.trees.globals);
  }

  -- ---- what a part defines

  module _ (wasm : Module) (marks : Labels) (typed : Typed wasm) (a b : Spaces) (alike : SpacesAlike s a b)
      (types : length wasm.types ≡ length a.types) (functions : length (functions_of wasm) ≡ length a.functions) (globals : length (globals_of wasm) ≡ length a.globals) where
    type_same : (i : ℕ) → i < length wasm.types → s.ours.names.type (number a.types i) ≡ s.theirs.names.type (number b.types i)
    type_same i lt =
        let h = zip_numbered (Same (length s.stub.types) (length s.library.types)) a.types b.types i alike.types (omega (arith, lt, types)) in
        ap s.ours.names.type h.1 ∙ agree.types h.0 ∙ sym (ap s.theirs.names.type h.2)

    global_same : (i : ℕ) → i < length (globals_of wasm) → s.ours.names.global (number a.globals i) ≡ s.theirs.names.global (number b.globals i)
    global_same i lt =
        let h = zip_numbered (NumberAlike s export.Global) a.globals b.globals i alike.globals (omega (arith, lt, globals)) in
        ap s.ours.names.global h.1 ∙ agree.globals h.0 ∙ sym (ap s.theirs.names.global h.2)

    one_function : (place k : ℕ) (t : HasTyping wasm k) → function_by s.ours (function wasm.types marks a (place, (t.index, t.code))) ≡ function_by s.theirs (function wasm.types marks b (place, (t.index, t.code)))
    one_function place k t =
        let items : map (renamed s.ours.names) (map (renamed (names a)) t.code.items) ≡ map (renamed s.theirs.names) (map (renamed (names b)) t.code.items) =
        map_map s.ours.names (names a) (through s.ours.names (names a)) (item_through s.ours.names (names a)) t.code.items
        ∙ body_same (context_of wasm t.type t.code) (through s.ours.names (names a)) (through s.theirs.names (names b)) (record {
          types = type_same;
          functions = λ i lt. zip_numbered (NumberAlike s export.Function) a.functions b.functions i alike.functions (omega (arith, lt, functions));
          globals = global_same;
        }) t.code.items t.places t.typing
        ∙ sym (map_map s.theirs.names (names b) (through s.theirs.names (names b)) (item_through s.theirs.names (names b)) t.code.items) in
        made_same (function wasm.types marks a (place, (t.index, t.code)))
        (s.ours.names.type (number a.types t.index)) (s.theirs.names.type (number b.types t.index))
        (map (renamed s.ours.names) (map (renamed (names a)) t.code.items)) (map (renamed s.theirs.names) (map (renamed (names b)) t.code.items))
        (option_map s.ours.memory (slice_get a.memories 0)) (option_map s.theirs.memory (slice_get b.memories 0))
        (option_map s.ours.table (slice_get a.tables 0)) (option_map s.theirs.table (slice_get b.tables 0))
        (type_same t.index (slice_get_within wasm.types t.index t.type t.exists)) items
        (first_same s.ours.memory s.theirs.memory a.memories b.memories (zip_each (NumberAlike s export.Memory) (λ m n. s.ours.memory m ≡ s.theirs.memory n)
        (λ m n h. ap s.ours.memory h.1 ∙ agree.memories h.0 ∙ sym (ap s.theirs.memory h.2)) a.memories b.memories alike.memories))
        (first_same s.ours.table s.theirs.table a.tables b.tables (zip_each (NumberAlike s export.Table) (λ m n. s.ours.table m ≡ s.theirs.table n)
        (λ m n h. ap s.ours.table h.1 ∙ agree.tables h.0 ∙ sym (ap s.theirs.table h.2)) a.tables b.tables alike.tables))

    pub functions_alike : map (function_by s.ours) (map (function wasm.types marks a) (indexed a.functions (zip wasm.functions wasm.bodies)))
        ≡ map (function_by s.theirs) (map (function wasm.types marks b) (indexed b.functions (zip wasm.functions wasm.bodies)))
    functions_alike =
        let pairs : List (ℕ × Code) = zip wasm.functions wasm.bodies in
        let same : length a.functions ≡ length b.functions = zip_length (NumberAlike s export.Function) a.functions b.functions alike.functions in
        ap (λ n. map (function_by s.ours) (map (function wasm.types marks a) (enumerate_from (n - length pairs) pairs))) same
        ∙ images (function_by s.ours) (function_by s.theirs) (function wasm.types marks a) (function wasm.types marks b) (enumerate_from (length b.functions - length pairs) pairs) (λ k d e.
        let lt : k < length wasm.functions = omega (arith, slice_get_within (enumerate_from (length b.functions - length pairs) pairs) k d e, length-enumerate_from (length b.functions - length pairs) pairs, length-zip wasm.functions wasm.bodies, typed.rules.counts) in
        let t = typed.functions k lt in
        let found = get_numbered (length b.functions - length pairs) pairs k (t.index, t.code) (pair_at wasm.functions wasm.bodies k t.index t.code t.named t.body) in
        subst (λ d. function_by s.ours (function wasm.types marks a d) ≡ function_by s.theirs (function wasm.types marks b d))
        (same_Some (length b.functions - length pairs + k, (t.index, t.code)) d (sym found ∙ e)) (one_function (length b.functions - length pairs + k) k t))
