-- A tree that stands in a whole with other numbers: its functions have the same sizes there, and become the same commands but for numbers.
use Rattle.std.proofs.Common.{◌≡◌, ℕ, zero, suc, ◌+◌, ◌<◌, Bool, true, false, List, [], ◌∷◌, length, map, Option, Some, None, slice_get, refl, sym, ap, ap₂, ◌∙◌, subst, arith}
use Rattle.std.specs.Prelude.{IfSome, if◌then◌else◌, option_map, option_and_then}
use Rattle.std.specs.List.{All}
use Rattle.std.proofs.lemmas.List.{length-map}
use Rattle.std.proofs.lemmas.List.Elements.{All-head, All-tail}
use Rattle.std.proofs.lemmas.Option.{slice_get_within}
use Rattle.bl_base.proofs.Lists.{all_get}
use Rattle.bl_wasm.specs.Linked.{IsFunction, IsLinked, IsSlot, context, function_type, type_of}
use Rattle.bl_wasm.specs.TypeNumbers.{is_same_type}
use Rattle.bl_wasm.specs.Typing.{Context, expanded}
use Rattle.bl_wasm.specs.Validity.{locals_of}
use Rattle.bl_wasm.specs.declared.instruction.Instr.{Instr}
use Rattle.bl_wasm.specs.declared.instruction.Instr.TheVariants.{Block, Loop, If, Call, CallIndirect}
use Rattle.bl_wasm.specs.declared.types.BlockType.{BlockType}
use Rattle.bl_wasm.specs.declared.types.BlockType.TheVariants.{Empty, Value, Index}
use Rattle.bl_wasm.specs.declared.types.FuncType.{FuncType}
use Rattle.bl_wasm.specs.declared.linked.Function.{Function}
use Rattle.bl_wasm.specs.declared.linked.Signature.{Signature}
use Rattle.bl_wasm.specs.declared.linked.Tree.{Tree}
use Rattle.bl_wasm.proofs.OpenConstructLemmas.{closes}
use Rattle.bl_wasm.proofs.LeadsLemmas.{typing_nests}
use Rattle.bl_emit.specs.Shapes.{Counts, Slot, armed, mistyped, uninitialized}
use Rattle.bl_emit.specs.LoweredBodies.{Body, Extent, closed_size}
use Rattle.bl_emit.specs.Numbers.{block_counts, blocks, body_of, counts, counts_by, counts_of, extent_of, function_size, function_variables, shape, slot_by, slot_of, slots_at, slots_in, total}
use Rattle.bl_lower.specs.Trees.{function_def}
use Rattle.bl_lower.proofs.FunctionPlaces.{counts_are, extent_is}
use Rattle.bl_lower.proofs.NestedItems.{nested_is}
use Rattle.bl_lower.proofs.Sizes.{Size}
use Rattle.bl_lower.proofs.Templates.{ArmsExist, arms_exist}
use Rattle.bl_lower.proofs.TypedItems.{Each, Sound, all_sound}
use Rattle.bl_lower.proofs.Typings.{nested_body}
use Rattle.bl_iface.specs.JoinedProgram.{Renaming}
use Rattle.bl_wasm.specs.IndexMaps.{Names, renamed_block_type}
use Rattle.bl_rename.specs.Renamings.{function_by}
use Rattle.bl_access.proofs.Moving.{get_map}
use Rattle.bl_whole.specs.JoinedTree.{behind}
use Rattle.bl_whole.proofs.Settings.{AllAlike, AllIn, Alike, Setting, SizeFits, slot_to}
use Rattle.bl_whole.proofs.RenamedSizes.{extent_by}
use Rattle.bl_whole.proofs.RenamedNames.{Named, all_in, all_named, each_of_both, nested_by}

-- where a tree's types, tables and functions stand in the whole
pub record Placed (part whole : Tree) (names : Names) (memories tables : ℕ) (at_ : ℕ → ℕ) : Type 0 where
  pub types : (i : ℕ) → i < length part.types → slice_get whole.types (names.type i) ≡ slice_get part.types i
  pub slots : (t : ℕ) → t < length part.tables → slice_get whole.tables (tables + t) ≡ option_map (map (option_map names.function)) (slice_get part.tables t)
  pub called : (f : ℕ) → f < length part.functions → type_of whole (names.function f) ≡ type_of part f
  pub own : (f : ℕ) (function : Function) → slice_get part.functions f ≡ Some function → slice_get whole.functions (at_ f) ≡ Some (function_by (behind names memories tables) function)

module _ (part whole : Tree) (names : Names) (memories tables : ℕ) (at_ : ℕ → ℕ) (linked : IsLinked part) (placed : Placed part whole names memories tables at_) where
  abbrev pub moved_function : Function → Function
  moved_function function = function_by (behind names memories tables) function

  -- ---- types

  pub types_within : (i : ℕ) (type : FuncType) → slice_get (map function_type part.types) i ≡ Some type → i < length part.types
  types_within i type e =
      let lt = slice_get_within (map function_type part.types) i type e in
      let long = length-map part.types function_type in
      omega arith

  pub blocks_at : (r : BlockType) (type : FuncType) → expanded (map function_type part.types) r ≡ Some type → blocks whole (renamed_block_type names r) ≡ blocks part r
  blocks_at Empty type e = refl
  blocks_at (Value kind) type e = refl
  blocks_at (Index i) type e =
      ap block_counts (get_map function_type whole.types (names.type i) ∙ ap (option_map function_type) (placed.types i (types_within i type e)) ∙ sym (get_map function_type part.types i))

  alike : (f : ℕ) → f < length part.functions → counts whole (names.function f) ≡ counts part f
  alike f lt = ap counts_of (placed.called f lt)

  -- ---- slots

  slot_at : (type : Signature) (f : ℕ) (o : Option Signature) → slot_by type (names.function f) o ≡ slot_to names (slot_by type f o)
  slot_at type f None = refl
  slot_at type f (Some own) = by (is_same_type own type)
    where
      by : (b : Bool) → (if b then armed (names.function f) else mistyped) ≡ slot_to names (if b then armed f else mistyped)
      by true = refl
      by false = refl

  table_at : (type : Signature) (table : List (Option ℕ)) → All (IsSlot part) table → map (slot_of whole type) (map (option_map names.function) table) ≡ map (slot_to names) (map (slot_of part type) table)
  table_at type [] all = refl
  table_at type (None ∷ table) all = ap (λ l. uninitialized ∷ l) (table_at type table (All-tail (IsSlot part) None table all))
  table_at type (Some f ∷ table) all =
      ap₂ (λ (x : Slot) (l : List Slot). x ∷ l) (ap (slot_by type (names.function f)) (placed.called f (All-head (IsSlot part) (Some f) table all)) ∙ slot_at type f (type_of part f))
      (table_at type table (All-tail (IsSlot part) (Some f) table all))

  slots_for : (t : Option ℕ) (i : ℕ) → IfSome t (λ number. number < length part.tables) → i < length part.types
      → slots_in whole (option_and_then (slice_get whole.tables) (option_map (λ t. tables + t) t)) (slice_get whole.types (names.type i))
      ≡ map (slot_to names) (slots_in part (option_and_then (slice_get part.tables) t) (slice_get part.types i))
  slots_for None i h lt = refl
  slots_for (Some t) i h lt = ap₂ (slots_in whole) (placed.slots t h) (placed.types i lt) ∙ by (slice_get part.tables t) (slice_get part.types i) refl
    where
      by : (o : Option (List (Option ℕ))) (p : Option Signature) → slice_get part.tables t ≡ o → slots_in whole (option_map (map (option_map names.function)) o) p ≡ map (slot_to names) (slots_in part o p)
      by None p e = refl
      by (Some table) None e = refl
      by (Some table) (Some type) e = table_at type table (all_get (All (IsSlot part)) part.tables t table linked.tables e)

  -- ---- a function

  module _ (n : Renaming) (vars commands : ℕ) (f : ℕ) (function : Function) (exists : slice_get part.functions f ≡ Some function) where
    abbrev pub setting : Setting
    setting = record {
      names = names;
      numbers = n;
      vars = vars;
      commands = commands;
      blocks = blocks part;
      blocks_in = blocks whole;
      shapes = shape part;
      shapes_in = shape whole;
      number = f;
      number_in = at_ f;
    }

    pub is : IsFunction part function
    is = all_get (IsFunction part) part.functions f function linked.functions exists

    pub there : slice_get whole.functions (at_ f) ≡ Some (moved_function function)
    there = placed.own f function exists

    abbrev pub c : Context
    c = context part is.type function

    type_within : function.type_index < length part.types
    type_within = slice_get_within part.types function.type_index is.type is.exists

    pub counts_by_same : counts_by whole (moved_function function) ≡ counts_by part function
    counts_by_same = ap counts_of (placed.types function.type_index type_within)

    pub counts_same : counts whole (at_ f) ≡ counts part f
    counts_same = counts_are whole (at_ f) (moved_function function) there ∙ counts_by_same ∙ sym (counts_are part f function exists)

    pub results_same : (shape whole (at_ f)).results ≡ (shape part f).results
    results_same = ap (λ (c : Counts). c.results) counts_same

    pub alike_at : (g : ℕ) → g < length part.functions → Alike setting g
    alike_at g lt = record { params = ap (λ (c : Counts). c.params) (alike g lt); results = ap (λ (c : Counts). c.results) (alike g lt) }

    all_alike : (slots : List Slot) → ArmsExist part slots → AllAlike setting slots
    all_alike [] h = tt
    all_alike (armed g ∷ slots) h = (alike_at g (let long = length-map part.functions (function_def part) in let lt = h.0 in omega arith), all_alike slots h.1)
    all_alike (uninitialized ∷ slots) h = all_alike slots h
    all_alike (mistyped ∷ slots) h = all_alike slots h

    pub slots_there : (i : ℕ) → i < length part.types → (shape whole (at_ f)).slots (names.type i) ≡ map (slot_to names) ((shape part f).slots i)
    slots_there i lt =
        ap (λ o. slots_at whole o (names.type i)) there ∙ slots_for function.table i is.table lt ∙ ap (λ o. map (slot_to names) (slots_at part o i)) (sym exists)

    pub functions_within : (g : ℕ) → g < length c.functions → g < length part.functions
    functions_within g lt = let long = length-map part.functions (λ (one : Function). one.type_index) in omega arith

    size_fits : (item : Instr) → Sound c item → Named c item → SizeFits setting item
    size_fits (Block r) h k = blocks_at r k.0 k.1
    size_fits (Loop r) h k = blocks_at r k.0 k.1
    size_fits (If r) h k = blocks_at r k.0 k.1
    size_fits (Call g) h k = alike_at g (functions_within g h)
    size_fits (CallIndirect i) h k =
        let lt = types_within i k.0 k.1 in
        (ap counts_of (placed.types i lt), slots_there i lt, all_alike ((shape part f).slots i) (arms_exist part (slice_get part.functions f) i))
    size_fits item h k = tt

    -- what holds of all items of the body
    pub in_body : (F : Instr → Type 0) → ((item : Instr) → Sound c item → Named c item → F item) → AllIn F (body_of part function)
    in_body F one =
        let items = function.code.items in
        let same = nested_is items (closes items (typing_nests c items is.places is.typing)) in
        let all = each_of_both (Sound c) (Named c) F one items (all_sound c items [] is.places is.immediates is.typing.1) (all_named c items [] is.places is.typing.1) in
        (all_in F (body_of part function) [] (nested_body items) (subst (Each F) (sym same) all)).0

    pub extent_same : extent_of whole (moved_function function) ≡ extent_of part function
    extent_same =
        sym (extent_is whole (at_ f) (moved_function function) there)
        ∙ ap (λ (b : Body). Size (blocks whole) (shape whole) (at_ f) [] b) (nested_by names function.code.items)
        ∙ extent_by setting results_same [] (body_of part function) (in_body (SizeFits setting) size_fits)
        ∙ extent_is part f function exists

    pub size_same : function_size whole (moved_function function) ≡ function_size part function
    size_same = ap₂ (λ (c : Counts) (e : Extent). suc (length (locals_of function.code)) + closed_size c.results e) counts_by_same extent_same

    pub variables_same : function_variables whole (moved_function function) ≡ function_variables part function
    variables_same = ap₂ (λ (c : Counts) (e : Extent). c.params + c.results + length (locals_of function.code) + e.new) counts_by_same extent_same

  -- ---- sums

  pub total_same : (of in_whole : Function → ℕ) → ((f : ℕ) (function : Function) → slice_get part.functions f ≡ Some function → in_whole (moved_function function) ≡ of function)
      → (functions : List Function) (k : ℕ) → ((i : ℕ) (function : Function) → slice_get functions i ≡ Some function → (f : ℕ) × (slice_get part.functions f ≡ Some function))
      → total in_whole (map moved_function functions) k ≡ total of functions k
  total_same of in_whole same functions zero has = refl
  total_same of in_whole same [] (suc k) has = refl
  total_same of in_whole same (function ∷ functions) (suc k) has =
      let first = has 0 function refl in
      ap₂ (λ a b. a + b) (same first.0 function first.1) (total_same of in_whole same functions k (λ i g e. has (suc i) g e))
