-- The joined tree is linked.
use Rattle.std.proofs.Common.{◌≡◌, ℕ, zero, suc, ◌+◌, ◌*◌, ◌<◌, ◌≤◌, Bool, true, false, cond, List, [], ◌∷◌, ◌++◌, length, map, Option, Some, None, slice_get, refl, sym, ap, ◌∙◌, subst, arith, length-append}
use Rattle.std.specs.Prelude.{IfSome, not, option_and_then, option_map, sum_by}
use Rattle.std.specs.List.{All, filter}
use Rattle.std.proofs.lemmas.List.{length-map}
use Rattle.std.proofs.lemmas.List.Elements.{All-append, All-filter, All-head, All-map, All-tail, All-weaker}
use Rattle.std.proofs.lemmas.List.Sums.{sum_by-append, sum_by-cons}
use Rattle.std.proofs.lemmas.Option.{none-some, same_Some, slice_get_within}
use Rattle.bl_base.proofs.Lists.{all_from, all_get, get_mapped, mapped_get, within_get}
use Rattle.bl_base.specs.Fits.{ArgumentFits}
use Rattle.bl_base.specs.declared.names.Label.TheVariants.{Secret}
use Rattle.bl_base.specs.Quantity.{limit_of}
use Rattle.bl_base.specs.declared.quantity.Quantity.TheVariants as quantity
use Rattle.bl_wasm.specs.Exports.{AreDistinct, Pairs}
use Rattle.bl_wasm.specs.Linked.{HasImmediates, IsFunction, IsLinked, IsMemory, IsSlot, function_type, global_type, seen, shared_in, type_of}
use Rattle.bl_wasm.specs.Typing.{integer}
use Rattle.bl_wasm.specs.Validity.{locals_of}
use Rattle.bl_wasm.specs.declared.linked.Function.{Function}
use Rattle.bl_wasm.specs.declared.linked.Global.{Global}
use Rattle.bl_wasm.specs.declared.linked.Memory.{Memory}
use Rattle.bl_wasm.specs.declared.linked.Signature.{Signature}
use Rattle.bl_wasm.specs.declared.linked.Tree.{Tree}
use Rattle.bl_wasm.specs.declared.types.FuncType.{FuncType}
use Rattle.bl_program.specs.Layout.{sum_before}
use Rattle.bl_program.specs.declared.definitions.MemoryDef.{MemoryDef}
use Rattle.bl_program.specs.declared.definitions.ExportDef.{ExportDef}
use Rattle.bl_program.proofs.AppendLemmas.{get_left, get_right}
use Rattle.bl_lower.specs.Trees.{export_def, low_tree, memory_def}
use Rattle.bl_iface.specs.JoinedProgram.{HasSameTypes, IsNew, is_named, kept}
use Rattle.bl_iface.specs.declared.iface.Iface.{Iface}
use Rattle.bl_reduce.specs.Runnable.{IsRunnable}
use Rattle.bl_wasm.specs.IndexMaps.{Names, renamed as item_by}
use Rattle.bl_wasm.proofs.MovedTypings.{Carries, immediate_by, types_by}
use Rattle.bl_rename.specs.Renamings.{function_by}
use Rattle.bl_whole.specs.JoinedTree.{behind, client_names, joined_tree, kept_in, library_names}
use Rattle.bl_whole.proofs.PartTrees.{Placed}
use Rattle.bl_whole.proofs.JoinedPlaces.{our_place, their_place}
use Rattle.bl_whole.proofs.JoinedTrees.{kept_same}

-- ---- a function of a part

module _ (part whole : Tree) (names : Names) (memories tables : ℕ) (at_ : ℕ → ℕ) (linked : IsLinked part) (placed : Placed part whole names memories tables at_)
    (globals_at : (x : ℕ) → x < length part.globals → slice_get whole.globals (names.global x) ≡ slice_get part.globals x)
    (memories_within : (m : ℕ) → m < length part.memories → memories + m < length whole.memories)
    (tables_within : (t : ℕ) → t < length part.tables → tables + t < length whole.tables) where
  seen_same : (k : ℕ) (o : Option ℕ) → seen (option_map (λ m. k + m) o) ≡ seen o
  seen_same k None = refl
  seen_same k (Some m) = refl

  type_at : (i : ℕ) (t : FuncType) → slice_get (map function_type part.types) i ≡ Some t → slice_get (map function_type whole.types) (names.type i) ≡ Some t
  type_at i t e =
      let u = mapped_get function_type part.types i t e in
      get_mapped function_type whole.types (names.type i) u.0 (placed.types i (slice_get_within part.types i u.0 u.1) ∙ u.1) ∙ ap Some u.2

  -- the function of a type
  of_type : (f : ℕ) (sig : Signature) → type_of whole f ≡ Some sig
      → (j : ℕ) × (slice_get (map (λ (one : Function). one.type_index) whole.functions) f ≡ Some j) × (slice_get (map function_type whole.types) j ≡ Some (function_type sig))
  of_type f sig e = by (slice_get whole.functions f) refl e
    where
      by : (o : Option Function) → slice_get whole.functions f ≡ o → option_and_then (λ (one : Function). slice_get whole.types one.type_index) o ≡ Some sig
          → (j : ℕ) × (slice_get (map (λ (one : Function). one.type_index) whole.functions) f ≡ Some j) × (slice_get (map function_type whole.types) j ≡ Some (function_type sig))
      by None g h = absurd (none-some sig h)
      by (Some one) g h = (one.type_index, get_mapped (λ (one : Function). one.type_index) whole.functions f one g, get_mapped function_type whole.types one.type_index sig h)

  function_at : (f i : ℕ) (t : FuncType) → slice_get (map (λ (one : Function). one.type_index) part.functions) f ≡ Some i → slice_get (map function_type part.types) i ≡ Some t
      → (j : ℕ) × (slice_get (map (λ (one : Function). one.type_index) whole.functions) (names.function f) ≡ Some j) × (slice_get (map function_type whole.types) j ≡ Some t)
  function_at f i t e g =
      let one = mapped_get (λ (one : Function). one.type_index) part.functions f i e in
      let u = mapped_get function_type part.types i t g in
      let typed : type_of part f ≡ Some u.0 = ap (option_and_then (λ (one : Function). slice_get part.types one.type_index)) one.1 ∙ ap (slice_get part.types) one.2 ∙ u.1 in
      let found = of_type (names.function f) u.0 (placed.called f (slice_get_within part.functions f one.0 one.1) ∙ typed) in
      (found.0, found.1, found.2 ∙ ap Some u.2)

  carries : (function : Function) → Carries names (shared_in part function.table function.memory) (shared_in whole (option_map (λ t. tables + t) function.table) (option_map (λ m. memories + m) function.memory))
  carries function = record {
    types = type_at;
    functions = function_at;
    globals = λ x g e.
        let u = mapped_get global_type part.globals x g e in
        get_mapped global_type whole.globals (names.global x) u.0 (globals_at x (slice_get_within part.globals x u.0 u.1) ∙ u.1) ∙ ap Some u.2;
    tables = seen_same tables function.table;
    memories = seen_same memories function.memory;
  }

  number_within : (k n m : ℕ) (o : Option ℕ) → IfSome o (λ x. x < n) → ((x : ℕ) → x < n → k + x < m) → IfSome (option_map (λ x. k + x) o) (λ x. x < m)
  number_within k n m None h g = tt
  number_within k n m (Some x) h g = g x h

  pub function_linked : (function : Function) → IsFunction part function → IsFunction whole (function_by (behind names memories tables) function)
  function_linked function is = record {
    type = is.type;
    exists = placed.types function.type_index (slice_get_within part.types function.type_index is.type is.exists) ∙ is.exists;
    places = is.places;
    typing = (
      is.typing.0,
      types_by names (shared_in part function.table function.memory) (shared_in whole (option_map (λ t. tables + t) function.table) (option_map (λ m. memories + m) function.memory)) (carries function)
          (map integer is.type.params ++ locals_of function.code) (map integer is.type.results) [] function.code.items is.places is.typing.1,
    );
    immediates = All-map HasImmediates (item_by names) function.code.items (All-weaker HasImmediates (λ item. HasImmediates (item_by names item)) (immediate_by names) function.code.items is.immediates);
    labels = is.labels;
    demanded = is.demanded;
    room = is.room;
    memory = number_within memories (length part.memories) (length whole.memories) function.memory is.memory memories_within;
    table = number_within tables (length part.tables) (length whole.tables) function.table is.table tables_within;
  }

  pub functions_linked : All (IsFunction whole) (map (function_by (behind names memories tables)) part.functions)
  functions_linked = All-map (IsFunction whole) (function_by (behind names memories tables)) part.functions
      (All-weaker (IsFunction part) (λ function. IsFunction whole (function_by (behind names memories tables) function)) function_linked part.functions linked.functions)

  -- ---- slots

  called_within : (f : ℕ) → f < length part.functions → names.function f < length whole.functions
  called_within f lt =
      let one = within_get part.functions f lt in
      let is = all_get (IsFunction part) part.functions f one.0 linked.functions one.1 in
      let typed : type_of part f ≡ Some is.type = ap (option_and_then (λ (one : Function). slice_get part.types one.type_index)) one.1 ∙ is.exists in
      let found = of_type (names.function f) is.type (placed.called f lt ∙ typed) in
      let many = length-map whole.functions (λ (one : Function). one.type_index) in
      let less = slice_get_within (map (λ (one : Function). one.type_index) whole.functions) (names.function f) found.0 found.1 in
      omega arith

  slot_within : (slot : Option ℕ) → IsSlot part slot → IsSlot whole (option_map names.function slot)
  slot_within None h = tt
  slot_within (Some f) h = called_within f h

  table_within : (table : List (Option ℕ)) → All (IsSlot part) table → All (IsSlot whole) (map (option_map names.function) table)
  table_within table h = All-map (IsSlot whole) (option_map names.function) table (All-weaker (IsSlot part) (λ slot. IsSlot whole (option_map names.function slot)) slot_within table h)

  pub tables_linked : All (All (IsSlot whole)) (map (map (option_map names.function)) part.tables)
  tables_linked = All-map (All (IsSlot whole)) (map (option_map names.function)) part.tables
      (All-weaker (All (IsSlot part)) (λ table. All (IsSlot whole) (map (option_map names.function) table)) table_within part.tables linked.tables)

-- ---- names of exports

abbrev Name : Type 0
Name = List ℕ × ℕ

abbrev Differs : Name → Name → Type 0
Differs x y = x.0 ≡ y.0 → ⊥

abbrev Apart : Pairs → Type 0
Apart [] = Unit {0}
Apart (x ∷ xs) = All (Differs x) xs × Apart xs

apart_of : (xs : Pairs) → AreDistinct xs → Apart xs
apart_of [] d = tt
apart_of (x ∷ xs) d = (
  all_from (Differs x) xs (λ i y e same. let n = d 0 (suc i) x y refl e same in absurd (omega arith)),
  apart_of xs (λ i j a b e f same. let n = d (suc i) (suc j) a b e f same in omega arith),
)

distinct_of : (xs : Pairs) → Apart xs → AreDistinct xs
distinct_of [] h i j a b e f same = absurd (none-some a e)
distinct_of (x ∷ xs) h zero zero a b e f same = refl
distinct_of (x ∷ xs) h zero (suc j) a b e f same = absurd (all_get (Differs x) xs j b h.0 f (ap (λ (p : Name). p.0) (same_Some x a e) ∙ same))
distinct_of (x ∷ xs) h (suc i) zero a b e f same = absurd (all_get (Differs x) xs i a h.0 e (ap (λ (p : Name). p.0) (same_Some x b f) ∙ sym same))
distinct_of (x ∷ xs) h (suc i) (suc j) a b e f same = ap suc (distinct_of xs h.1 i j a b e f same)

apart_filter : (p : Name → Bool) (xs : Pairs) → Apart xs → Apart (filter p xs)
apart_filter p [] h = tt
apart_filter p (x ∷ xs) h = by (p x) (apart_filter p xs h.1)
  where
    by : (b : Bool) → Apart (filter p xs) → Apart (cond b (x ∷ filter p xs) (filter p xs))
    by true rest = (All-filter p (Differs x) xs h.0, rest)
    by false rest = rest

apart_map : (k : ℕ) (xs : Pairs) → Apart xs → Apart (map (λ pair. (pair.0, k + pair.1)) xs)
apart_map k [] h = tt
apart_map k (x ∷ xs) h = (All-map (Differs (x.0, k + x.1)) (λ pair. (pair.0, k + pair.1)) xs h.0, apart_map k xs h.1)

apart_both : (xs ys : Pairs) → Apart xs → Apart ys → All (λ x. All (Differs x) ys) xs → Apart (xs ++ ys)
apart_both [] ys h k all = k
apart_both (x ∷ xs) ys h k all =
    (All-append (Differs x) xs ys h.0 (All-head (λ x. All (Differs x) ys) x xs all), apart_both xs ys h.1 k (All-tail (λ x. All (Differs x) ys) x xs all))

-- ---- reserves

pub reserves_are : (memories : List Memory) → sum_before (λ (m : MemoryDef). m.reserve) (map memory_def memories) (length (map memory_def memories)) ≡ sum_by (λ (m : Memory). m.reserve) memories
reserves_are [] = refl
reserves_are (memory ∷ memories) = ap (λ n. memory.reserve + n) (reserves_are memories) ∙ sym (sum_by-cons (λ (m : Memory). m.reserve) memory memories)

-- ---- the whole

module _ (client library : Tree) (iface : Iface) (linked : IsLinked client) (others : IsLinked library) (types : All (HasSameTypes (low_tree client) (low_tree library)) iface.functions)
    (new : All (IsNew (kept iface (low_tree client))) (low_tree library).exports)
    (few_functions : length client.functions + length library.functions ≤ limit_of quantity.Modules * limit_of quantity.Functions)
    (reserved : sum_by (λ (memory : Memory). memory.reserve) client.memories + sum_by (λ (memory : Memory). memory.reserve) library.memories ≤ limit_of quantity.Reserve) where
  abbrev W : Tree
  W = joined_tree client library iface

  abbrev ours : Names
  ours = client_names iface client library

  abbrev theirs : Names
  theirs = library_names client

  memories_long : length W.memories ≡ length client.memories + length library.memories
  memories_long = length-append client.memories library.memories

  abbrev our_tables : List (List (Option ℕ))
  our_tables = map (map (option_map ours.function)) client.tables

  abbrev their_tables : List (List (Option ℕ))
  their_tables = map (map (option_map theirs.function)) library.tables

  tables_long : length W.tables ≡ length client.tables + length library.tables
  tables_long =
      let a = length-append our_tables their_tables in
      let b = length-map client.tables (map (option_map ours.function)) in
      let c = length-map library.tables (map (option_map theirs.function)) in
      omega arith

  abbrev mine : List Function
  mine = map (function_by (behind ours 0 0)) client.functions

  abbrev its : List Function
  its = map (function_by (behind theirs (length client.memories) (length client.tables))) library.functions

  functions_long : length W.functions ≡ length client.functions + length library.functions
  functions_long =
      let a = length-append mine its in
      let b = length-map client.functions (function_by (behind ours 0 0)) in
      let c = length-map library.functions (function_by (behind theirs (length client.memories) (length client.tables))) in
      omega arith

  abbrev our_globals : (x : ℕ) → x < length client.globals → slice_get W.globals (ours.global x) ≡ slice_get client.globals x
  our_globals x lt = get_left client.globals library.globals x lt

  abbrev their_globals : (x : ℕ) → x < length library.globals → slice_get W.globals (theirs.global x) ≡ slice_get library.globals x
  their_globals x lt = get_right client.globals library.globals (length client.globals + x) x refl

  our_memories_within : (m : ℕ) → m < length client.memories → 0 + m < length W.memories
  our_memories_within m lt = let a = memories_long in omega arith

  their_memories_within : (m : ℕ) → m < length library.memories → length client.memories + m < length W.memories
  their_memories_within m lt = let a = memories_long in omega arith

  our_tables_within : (m : ℕ) → m < length client.tables → 0 + m < length W.tables
  our_tables_within m lt = let a = tables_long in omega arith

  their_tables_within : (m : ℕ) → m < length library.tables → length client.tables + m < length W.tables
  their_tables_within m lt = let a = tables_long in omega arith

  abbrev Behind : ℕ → ℕ
  Behind f = length client.functions + f

  functions : All (IsFunction W) W.functions
  functions = All-append (IsFunction W) mine its
      (functions_linked client W ours 0 0 (λ f. f) linked (our_place client library iface linked others types) our_globals our_memories_within our_tables_within)
      (functions_linked library W theirs (length client.memories) (length client.tables) Behind others (their_place client library iface linked others types) their_globals their_memories_within their_tables_within)

  tables : All (All (IsSlot W)) W.tables
  tables = All-append (All (IsSlot W)) our_tables their_tables
      (tables_linked client W ours 0 0 (λ f. f) linked (our_place client library iface linked others types) our_globals our_memories_within our_tables_within)
      (tables_linked library W theirs (length client.memories) (length client.tables) Behind others (their_place client library iface linked others types) their_globals their_memories_within their_tables_within)

  abbrev kept_ones : Pairs
  kept_ones = kept_in iface client.exports

  abbrev behind_ones : Pairs
  behind_ones = map (λ pair. (pair.0, length client.functions + pair.1)) library.exports

  exports : All (λ pair. pair.1 < length W.functions) W.exports
  exports =
      let many = functions_long in
      All-append (λ (pair : Name). pair.1 < length W.functions) kept_ones behind_ones
      (All-filter (λ pair. not (is_named iface.functions pair.0)) (λ (pair : Name). pair.1 < length W.functions) client.exports
      (All-weaker (λ (pair : Name). pair.1 < length client.functions) (λ (pair : Name). pair.1 < length W.functions) (λ pair h. omega arith) client.exports linked.exports))
      (All-map (λ (pair : Name). pair.1 < length W.functions) (λ pair. (pair.0, length client.functions + pair.1)) library.exports
      (All-weaker (λ (pair : Name). pair.1 < length library.functions) (λ (pair : Name). length client.functions + pair.1 < length W.functions) (λ pair h. omega arith) library.exports others.exports))

  across : All (λ x. All (Differs x) behind_ones) kept_ones
  across = all_from (λ x. All (Differs x) behind_ones) kept_ones (λ i x here.
      All-map (Differs x) (λ pair. (pair.0, length client.functions + pair.1)) library.exports
      (all_from (λ y. Differs x (y.0, length client.functions + y.1)) library.exports (λ j y there.
      let apart = all_get (IsNew (kept iface (low_tree client))) (map export_def library.exports) j (export_def y) new (get_mapped export_def library.exports j y there) in
      all_get (λ (export : ExportDef). export.name ≡ y.0 → ⊥) (map export_def kept_ones) i (export_def x)
      (subst (All (λ (export : ExportDef). export.name ≡ y.0 → ⊥)) (kept_same iface client.exports) apart) (get_mapped export_def kept_ones i x here))))

  distinct : AreDistinct W.exports
  distinct = distinct_of W.exports (apart_both kept_ones behind_ones
      (apart_filter (λ pair. not (is_named iface.functions pair.0)) client.exports (apart_of client.exports linked.distinct)) (apart_map (length client.functions) library.exports (apart_of library.exports others.distinct)) across)

  function_count : length W.functions ≤ limit_of quantity.Modules * limit_of quantity.Functions
  function_count = let many = functions_long in omega arith

  reserves : sum_by (λ (memory : Memory). memory.reserve) W.memories ≤ limit_of quantity.Reserve
  reserves = let both = sum_by-append (λ (memory : Memory). memory.reserve) client.memories library.memories in omega arith

  pub joined_linked : IsRunnable (joined_tree client library iface)
  joined_linked = record {
    types = All-append (λ (type : Signature). length type.results ≤ limit_of quantity.Results) client.types library.types linked.types others.types;
    functions = functions;
    globals = All-append (λ (global : Global). ArgumentFits global.kind global.initial) client.globals library.globals linked.globals others.globals;
    labels = All-append (λ (global : Global). global.label ≡ Secret → global.demanded ≡ false) client.globals library.globals linked.labels others.labels;
    memories = All-append IsMemory client.memories library.memories linked.memories others.memories;
    tables = tables;
    exports = exports;
    distinct = distinct;
    function_count = function_count;
    reserves = reserves;
  }
