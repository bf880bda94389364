-- The tree of parts that are typed and within the limits can be run.
use Rattle.std.proofs.Common.{◌≡◌, ◌∙◌, refl, sym, ap, subst, ℕ, ◌+◌, ◌<◌, ◌≤◌, List, [], ◌∷◌, ◌++◌, length, map, true, false, Bool, Option, Some, None, Result, Ok, Err, slice_get, arith, length-append, append_assoc, append-nil}
use Rattle.std.specs.Prelude.{fold, nat_le, if◌then◌else◌}
use Rattle.std.specs.List.{All, AllZip, Contains, enumerate_from, list_all}
use Rattle.std.proofs.lemmas.List.Elements.{All-nil, at_from_Contains}
use Rattle.std.proofs.lemmas.Option.{slice_get-get_or}
use Rattle.bl_base.specs.Fits.{ArgumentFits}
use Rattle.bl_base.specs.declared.names.Label.TheVariants.{Secret}
use Rattle.bl_wasm.specs.Linked.{IsFunction, IsLinked, IsMemory}
use Rattle.bl_wasm.specs.declared.linked.Function.{Function}
use Rattle.bl_wasm.specs.declared.linked.Global.{Global}
use Rattle.bl_wasm.specs.declared.linked.Signature.{Signature}
use Rattle.bl_wasm.specs.declared.linked.Tree.{Tree}
use Rattle.bl_wasm.specs.declared.module.Import.{Import}
use Rattle.bl_wasm.specs.declared.module.Module.{Module}
use Rattle.bl_link.specs.TreeGrowth.{Grows}
use Rattle.bl_base.specs.Quantity.{limit_of}
use Rattle.bl_base.specs.declared.quantity.Quantity.TheVariants.{Modules, Reserve}
use Rattle.bl_base.proofs.Lists.{all_get}
use Rattle.bl_link.specs.Linkable.{AreParts, IsPart, IsSound, NoSolidus}
use Rattle.bl_link.specs.Links.{data_fits, element_fits, initialised, links, nothing, reserves, with_given, with_next, with_part, within_reserve}
use Rattle.bl_link.specs.ImportMatches.{all_given, given, given_of, matches, named}
use Rattle.bl_link.specs.IndexSpaces.{External, LinkError, Part, Spaces, Store, all_ok, DataRange, ElementRange, Limit, Mismatch, number, on_ok, spaces_of}
use Rattle.bl_link.specs.Stores.{IsStore, IsTable, OfPart, ValueOfPart}
use Rattle.bl_link.proofs.ImportMatchLemmas.{Suits}
use Rattle.bl_link.proofs.NumberedLists.{get_left, get_right}
use Rattle.bl_link.proofs.PartSteps.{part_kept, segments_name}
use Rattle.bl_link.proofs.PartDefinitions.{grows_itself}
use Rattle.bl_link.proofs.SegmentLemmas.{data_kept, elements_kept, le_of}

-- ---- results that are Ok

pub ok_same : {A E : Type 0} (x y : A) → ◌≡◌ {A = Result A E} (Ok x) (Ok y) → x ≡ y
ok_same x y h = cc

pub on_ok_is : {A B E : Type 0} (r : Result A E) (next : A → Result B E) (y : B) → on_ok r next ≡ Ok y → (x : A) × (r ≡ Ok x) × (next x ≡ Ok y)
on_ok_is (Ok x) next y h = (x, refl, h)
on_ok_is (Err e) next y h = absurd (cc h)

pub if_ok : {A E : Type 0} (b : Bool) (r : Result A E) (e : E) (y : A) → (if b then r else Err e) ≡ Ok y → (b ≡ true) × (r ≡ Ok y)
if_ok true r e y h = (refl, h)
if_ok false r e y h = absurd (cc h)

-- ---- imports

given_suits : (store : Store) (wasm : Module) (part : ℕ) (wanted : ℕ × Import) (found : Option External) (value : External) → given_of store wasm part wanted found ≡ Ok value → Suits store wasm wanted.1 value
given_suits store wasm part wanted None value h = absurd (cc h)
given_suits store wasm part wanted (Some one) value h =
    let k = if_ok (matches store wasm wanted.1.kind one.kind one.number) (Ok one) (Mismatch part wanted.0) value h in
    subst (Suits store wasm wanted.1) (ok_same one value k.1) k.0

pub all_suit : (store : Store) (wasm : Module) (part : ℕ) (n : ℕ) (imports : List Import) (values : List External)
    → all_ok (map (given store wasm part) (enumerate_from n imports)) ≡ Ok values → AllZip (Suits store wasm) imports values
all_suit store wasm part n [] values h = let e : [] ≡ values = ok_same [] values h in subst (AllZip (Suits store wasm) []) e tt
all_suit store wasm part n (wanted ∷ imports) values h =
    let first = on_ok_is (given store wasm part (n, wanted)) (λ x. on_ok (all_ok (map (given store wasm part) (enumerate_from (n + 1) imports))) (λ xs. Ok (x ∷ xs))) values h in
    let later = on_ok_is (all_ok (map (given store wasm part) (enumerate_from (n + 1) imports))) (λ xs. Ok (first.0 ∷ xs)) values first.2 in
    let e : first.0 ∷ later.0 ≡ values = ok_same (first.0 ∷ later.0) values later.2 in
    subst (AllZip (Suits store wasm) (wanted ∷ imports)) e (given_suits store wasm part (n, wanted) (named store wanted) first.0 first.1, all_suit store wasm part (n + 1) imports later.0 later.1)

-- ---- segments

-- a tree with other contents of tables and memories
initialised_grows : (a b later : Tree) → a.types ≡ b.types → a.functions ≡ b.functions → a.globals ≡ b.globals → length a.tables ≡ length b.tables → length a.memories ≡ length b.memories → Grows b later → Grows a later
initialised_grows a b later t f g tables memories grows = record {
  types = λ i type found. grows.types i type (subst (λ (l : List Signature). slice_get l i ≡ Some type) t found);
  functions = λ i one found. grows.functions i one (subst (λ (l : List Function). slice_get l i ≡ Some one) f found);
  globals = λ i one found. grows.globals i one (subst (λ (l : List Global). slice_get l i ≡ Some one) g found);
  tables = omega (arith, tables, grows.tables);
  memories = omega (arith, memories, grows.memories);
}

segments_kept : (done : List Part) (store : Store) (part : Part) (spaces : Spaces) → IsStore done store → IsPart part → IsSound part
    → list_all (data_fits store.tree.globals spaces store.tree.memories) part.wasm.segments ≡ true
    → All (λ segment. All (λ function. number spaces.functions function < length store.tree.functions) segment.functions) part.wasm.elements
    → IsStore done (record store { tree = initialised part.wasm.elements part.wasm.segments spaces store.tree })
segments_kept done store part spaces is good sound fits names =
    let slots = elements_kept (length store.tree.functions) store.tree.globals spaces part.wasm.elements store.tree.tables names is.slots in
    let bytes = data_kept store.tree.globals spaces part.wasm.segments store.tree.memories sound.widths.bytes fits is.memories in
    record {
      tables = is.tables ∙ sym slots.1;
      sizes = is.sizes ∙ sym bytes.1;
      types = is.types;
      functions = λ later grows. is.functions later (initialised_grows store.tree (initialised part.wasm.elements part.wasm.segments spaces store.tree) later refl refl refl (sym slots.1) (sym bytes.1) grows);
      globals = is.globals;
      labels = is.labels;
      memories = bytes.0;
      slots = slots.0;
      exports = is.exports;
      distinct = is.distinct;
      named = is.named;
      values_distinct = is.values_distinct;
      values_named = is.values_named;
      type_count = is.type_count;
      table_count = omega (arith, slots.1, is.table_count);
      function_count = is.function_count;
      memory_count = omega (arith, bytes.1, is.memory_count);
      global_count = is.global_count;
    }

-- ---- parts

next_kept : (done : List Part) (store next : Store) (part : Part) (n : ℕ) → IsStore done store → IsPart part → IsSound part → ((p : Part) → Contains done p → NoSolidus p.name × (p.name ≡ part.name → ⊥))
    → with_next (Ok store) (n, part) ≡ Ok next → IsStore (done ++ part ∷ []) next
next_kept done store next part n is good sound fresh h =
    let one = on_ok_is (all_given store part.wasm n) (with_given store (n, part)) next h in
    let given : List External = one.0 in
    let spaces : Spaces = spaces_of store part.wasm given in
    let suit = all_suit store part.wasm n 0 part.wasm.imports given one.1 in
    let behind : Store = with_part store part spaces in
    let elements = if_ok (list_all (element_fits behind.tree.globals spaces behind.tree.tables) part.wasm.elements)
    (if list_all (data_fits behind.tree.globals spaces behind.tree.memories) part.wasm.segments then Ok (record behind { tree = initialised part.wasm.elements part.wasm.segments spaces behind.tree }) else Err (DataRange n)) (ElementRange n) next one.2 in
    let segments = if_ok (list_all (data_fits behind.tree.globals spaces behind.tree.memories) part.wasm.segments) (Ok (record behind { tree = initialised part.wasm.elements part.wasm.segments spaces behind.tree })) (DataRange n) next elements.1 in
    subst (IsStore (done ++ part ∷ [])) (ok_same (record behind { tree = initialised part.wasm.elements part.wasm.segments spaces behind.tree }) next segments.1)
    (segments_kept (done ++ part ∷ []) behind part spaces (part_kept done store part given is good sound suit fresh) good sound segments.0 (segments_name done store part given is good sound suit fresh))

-- ---- the whole

pub whole : (parts : List Part) (store : Store) (tree : Tree) → IsStore parts store → length parts ≤ limit_of Modules → (if nat_le (reserves store.tree) (limit_of Reserve) then Ok store.tree else Err (Limit Reserve (reserves store.tree))) ≡ Ok tree → IsLinked tree
whole parts store tree is few h =
    let k = if_ok (nat_le (reserves store.tree) (limit_of Reserve)) (Ok store.tree) (Limit Reserve (reserves store.tree)) tree h in
    subst IsLinked (ok_same store.tree tree k.1) (record {
      types = is.types;
      functions = is.functions store.tree (grows_itself store.tree);
      globals = is.globals;
      labels = is.labels;
      memories = is.memories;
      tables = is.slots;
      exports = is.exports;
      distinct = is.distinct;
      function_count = omega (arith, is.function_count, few);
      memory_count = omega (arith, is.memory_count, few);
      global_count = omega (arith, is.global_count, few);
      reserves = le_of (reserves store.tree) (limit_of Reserve) k.0;
    })

-- a part before another has another name, with no solidus
pub fresh_of : (parts rest done : List Part) (part : Part) → AreParts parts → done ++ part ∷ rest ≡ parts → (p : Part) → Contains done p → NoSolidus p.name × (p.name ≡ part.name → ⊥)
fresh_of parts rest done part are split p contains =
    let place = at_from_Contains done p contains in
    let i : ℕ = place.0 in
    let there : slice_get done i ≡ Some p = slice_get-get_or done i p place.1 ∙ ap (λ (q : Part). Some q) (place.2 p) in
    let first : slice_get parts i ≡ Some p = subst (λ (l : List Part). slice_get l i ≡ Some p) split (get_left done (part ∷ rest) i p there) in
    let second : slice_get parts (length done + 0) ≡ Some part = subst (λ (l : List Part). slice_get l (length done + 0) ≡ Some part) split (get_right done (part ∷ rest) 0) in
    ((all_get IsPart parts i p are.each first).name, λ same. let clash : i ≡ length done + 0 = are.distinct i (length done + 0) p part first second same in absurd (omega (arith, clash, place.1)))

pub step_kept : (parts rest done : List Part) (part : Part) (so_far : Result Store LinkError) (next : Store) → AreParts parts → All IsSound parts → done ++ part ∷ rest ≡ parts → ((store : Store) → so_far ≡ Ok store → IsStore done store)
    → with_next so_far (length done, part) ≡ Ok next → IsStore (done ++ part ∷ []) next
step_kept parts rest done part (Err fault) next are sound split is h = absurd (cc h)
step_kept parts rest done part (Ok store) next are sound split is h =
    let here : slice_get parts (length done + 0) ≡ Some part = subst (λ (l : List Part). slice_get l (length done + 0) ≡ Some part) split (get_right done (part ∷ rest) 0) in
    next_kept done store next part (length done) (is store refl) (all_get IsPart parts (length done + 0) part are.each here) (all_get IsSound parts (length done + 0) part sound here) (fresh_of parts rest done part are split) h

pub fold_kept : (parts : List Part) (store : Store) → AreParts parts → All IsSound parts → (rest done : List Part) (so_far : Result Store LinkError) → done ++ rest ≡ parts → ((store : Store) → so_far ≡ Ok store → IsStore done store)
    → fold with_next so_far (enumerate_from (length done) rest) ≡ Ok store → IsStore parts store
fold_kept parts store are sound [] done so_far split is h = subst (λ (l : List Part). IsStore l store) (sym (append-nil done) ∙ split) (is store h)
fold_kept parts store are sound (part ∷ rest) done so_far split is h =
    let more : length done + 1 ≡ length (done ++ part ∷ []) = sym (length-append done (part ∷ [])) in
    fold_kept parts store are sound rest (done ++ part ∷ []) (with_next so_far (length done, part)) (append_assoc done (part ∷ []) rest ∙ split)
    (λ next found. step_kept parts rest done part so_far next are sound split is found)
    (rw (← more) h)

pub nothing_is : IsStore [] nothing
nothing_is = record {
  tables = refl;
  sizes = refl;
  types = All-nil (λ (type : Signature). length type.results ≤ 1024);
  functions = λ later grows. All-nil (IsFunction later);
  globals = All-nil (λ (global : Global). ArgumentFits global.kind global.initial);
  labels = All-nil (λ (global : Global). global.label ≡ Secret → global.demanded ≡ false);
  memories = All-nil IsMemory;
  slots = All-nil (IsTable 0);
  exports = All-nil (λ (pair : List ℕ × ℕ). pair.1 < 0);
  distinct = λ i j a b first second same. absurd (cc);
  named = All-nil (OfPart []);
  values_distinct = λ i j a b first second same. absurd (cc);
  values_named = All-nil (ValueOfPart []);
  type_count = omega arith;
  table_count = omega arith;
  function_count = omega arith;
  memory_count = omega arith;
  global_count = omega arith;
}

pub all_kept : (parts : List Part) (store : Store) → AreParts parts → All IsSound parts → fold with_next (Ok nothing) (enumerate_from 0 parts) ≡ Ok store → IsStore parts store
all_kept parts store are sound h = fold_kept parts store are sound parts [] (Ok nothing) refl (λ one found. subst (IsStore []) (ok_same nothing one found) nothing_is) h

-- what is linked of parts can be run
pub linked : (parts : List Part) (tree : Tree) → AreParts parts → All IsSound parts → links parts ≡ Ok tree → IsLinked tree
linked parts tree are sound h =
    let one = on_ok_is (fold with_next (Ok nothing) (enumerate_from 0 parts)) within_reserve tree h in
    whole parts one.0 tree (all_kept parts one.0 are sound one.1) are.few one.2
