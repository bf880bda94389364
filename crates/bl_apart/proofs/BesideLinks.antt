-- The same parts linked behind two others stand beside one another.
use Rattle.std.proofs.Common.{◌≡◌, ◌∙◌, refl, sym, ap, ap₂, subst, ℕ, zero, suc, ◌+◌, ◌-◌, ◌<◌, ◌≤◌, List, [], ◌∷◌, ◌++◌, length, map, replicate, Option, None, Result, Ok, Err, arith, length-append, append-nil}
use Rattle.std.specs.Prelude.{fold, nat_le, option_map, if◌then◌else◌}
use Rattle.std.specs.List.{All, AllZip, enumerate_from, list_all}
use Rattle.std.proofs.lemmas.List.{append_assoc, map-append}
use Rattle.std.proofs.lemmas.List.Elements.{All-head, All-tail}
use Rattle.std.proofs.lemmas.List.FromFn.{length-range_with_len, length-enumerate_from}
use Rattle.std.proofs.lemmas.Option.{same_Some, slice_get_within}
use Rattle.bl_base.proofs.Lists.{all_get, zip_append, zip_length}
use Rattle.bl_wasm.specs.Validity.{IsInitial, Typed, imported, global_of, space_of}
use Rattle.bl_wasm.specs.declared.module.DefinedGlobal.{DefinedGlobal}
use Rattle.bl_wasm.specs.declared.module.Export.{Export}
use Rattle.bl_wasm.specs.declared.module.ExportKind.{ExportKind}
use Rattle.bl_wasm.specs.declared.module.ExportKind.TheVariants as export
use Rattle.bl_wasm.specs.declared.linked.Global.{Global}
use Rattle.bl_wasm.specs.declared.linked.Tree.{Tree}
use Rattle.bl_apart.specs.Beside.{AreBeside, Beside}
use Rattle.bl_rename.specs.Renamings.{function_by, slots_by}
use Rattle.bl_base.specs.Quantity.{limit_of}
use Rattle.bl_base.specs.declared.quantity.Quantity.TheVariants.{Reserve}
use Rattle.bl_apart.specs.BesideStores.{Agree, EntryAlike, AreGiven, IsGiven, NumberAlike, Setting, SpacesAlike, StoresBeside, ValueAlike}
use Rattle.bl_link.specs.ImportMatches.{all_given, given}
use Rattle.bl_link.specs.IndexSpaces.{number, space, spaces_of}
use Rattle.bl_link.specs.declared.part.Part.{Part}
use Rattle.bl_link.specs.declared.error.LinkError.{LinkError}
use Rattle.bl_link.specs.declared.error.LinkError.TheVariants.{DataRange, ElementRange, Limit}
use Rattle.bl_apart.specs.LinkedTypes.{External, Spaces, Store}
use Rattle.bl_link.specs.Linkable.{IsSound}
use Rattle.bl_link.specs.Links.{constant_value, data_fits, element_fits, exported, global, indexed, initialised, links, memory, nothing, reserves, table, with_given, with_next, with_part, within_reserve}
use Rattle.bl_link.specs.Signatures.{signature}
use Rattle.bl_apart.proofs.BesideImports.{all_alike, functions_counted, globals_counted, memories_counted, tables_counted}
use Rattle.bl_apart.proofs.BesideParts.{functions_alike, images, spaces_alike, zip_numbered}
use Rattle.bl_apart.proofs.BesideSegments.{constants_same, data_beside, elements_beside, initial_names}
use Rattle.bl_link.proofs.ImportMatchLemmas.{Suits}
use Rattle.bl_link.proofs.LinkedTrees.{all_suit, if_ok, ok_same, on_ok_is}
use Rattle.bl_link.proofs.NumberedLists.{get_numbered}
use Rattle.bl_link.proofs.PartDefinitions.{at_place}

append_beside : {A B : Type 0} (f g : A → B) (stub here library there xs ys : List A) → Beside f g stub here library there → map f xs ≡ map g ys → Beside f g stub (here ++ xs) library (there ++ ys)
append_beside f g stub here library there xs ys h e = record {
  here = h.here ++ xs;
  there = h.there ++ ys;
  client_is = ap (λ l. l ++ xs) h.client_is ∙ append_assoc stub h.here xs;
  whole_is = ap (λ l. l ++ ys) h.whole_is ∙ append_assoc library h.there ys;
  alike = map-append f h.here xs ∙ ap₂ (λ (a b : List _). a ++ b) h.alike e ∙ sym (map-append g h.there ys);
}

empty_slots : (f g : ℕ → ℕ) (n : ℕ) → map (option_map f) (replicate n None) ≡ map (option_map g) (replicate n None)
empty_slots f g zero = refl
empty_slots f g (suc n) = ap (λ (more : List (Option ℕ)). None ∷ more) (empty_slots f g n)

abbrev global_of_value : Global → ℕ → Global
global_of_value one value = record { kind = one.kind; mutable = one.mutable; initial = value; label = one.label; demanded = one.demanded }

-- what a part that is linked gives
pub made : (store next : Store) (part : Part) (m : ℕ) (values : List External) → with_given store (m, part) values ≡ Ok next
    → ◌≡◌ {A = Store} (record (with_part store part (spaces_of store part.wasm values)) { tree = initialised part.wasm.elements part.wasm.segments (spaces_of store part.wasm values) (with_part store part (spaces_of store part.wasm values)).tree }) next
made store next part m values h =
    let spaces : Spaces = spaces_of store part.wasm values in
    let behind : Store = with_part store part spaces in
    let elements = if_ok (list_all (element_fits behind.tree.globals spaces behind.tree.tables) part.wasm.elements)
    (if list_all (data_fits behind.tree.globals spaces behind.tree.memories) part.wasm.segments then Ok (record behind { tree = initialised part.wasm.elements part.wasm.segments spaces behind.tree }) else Err (DataRange m)) (ElementRange m) next h in
    let segments = if_ok (list_all (data_fits behind.tree.globals spaces behind.tree.memories) part.wasm.segments) (Ok (record behind { tree = initialised part.wasm.elements part.wasm.segments spaces behind.tree })) (DataRange m) next elements.1 in
    ok_same (record behind { tree = initialised part.wasm.elements part.wasm.segments spaces behind.tree }) next segments.1

fold_err : (e : LinkError) (parts : List (ℕ × Part)) (next : Store) → fold with_next (Err e) parts ≡ Ok next → ⊥
fold_err e [] next h = cc h
fold_err e (part ∷ parts) next h = fold_err e parts next h

-- where parts are linked, the first one is, and the others behind it
pub split_next : (store last : Store) (part : Part) (parts : List Part) (n : ℕ) → fold with_next (Ok store) (enumerate_from n (part ∷ parts)) ≡ Ok last
    → (next : Store) × (with_next (Ok store) (n, part) ≡ Ok next) × (fold with_next (Ok next) (enumerate_from (n + 1) parts) ≡ Ok last)
split_next store last part parts n e = by (with_next (Ok store) (n, part)) refl e
  where
    by : (next : Result Store LinkError) → with_next (Ok store) (n, part) ≡ next → fold with_next next (enumerate_from (n + 1) parts) ≡ Ok last
        → (next : Store) × (with_next (Ok store) (n, part) ≡ Ok next) × (fold with_next (Ok next) (enumerate_from (n + 1) parts) ≡ Ok last)
    by (Err fault) x e = absurd (fold_err fault (enumerate_from (n + 1) parts) last e)
    by (Ok next) x e = (next, x, e)

module _ (s : Setting) (agree : Agree s) (stub library : Store) where
  module _ (here there : Store) (part : Part) (ours theirs : List External) (typed : Typed part.wasm) (beside : StoresBeside s stub here library there)
      (given : AllZip (ValueAlike s) ours theirs) (suit : AllZip (Suits here part.wasm) part.wasm.imports ours) where
    abbrev a : Spaces
    a = spaces_of here part.wasm ours

    abbrev b : Spaces
    b = spaces_of there part.wasm theirs

    alike : SpacesAlike s a b
    alike = spaces_alike s agree stub here library there part.wasm ours theirs beside given

    counts : length part.wasm.types ≡ length a.types
    counts = sym (length-range_with_len (length here.tree.types) (length part.wasm.types))

    globals_alike : map (λ x. x) (map (global here.tree.globals part.labels a) (indexed a.globals part.wasm.globals)) ≡ map (λ x. x) (map (global there.tree.globals part.labels b) (indexed b.globals part.wasm.globals))
    globals_alike =
        let same : length a.globals ≡ length b.globals = zip_length (NumberAlike s export.Global) a.globals b.globals alike.globals in
        let n : ℕ = length b.globals - length part.wasm.globals in
        ap (λ k. map (λ x. x) (map (global here.tree.globals part.labels a) (enumerate_from (k - length part.wasm.globals) part.wasm.globals))) same
        ∙ images (λ x. x) (λ x. x) (global here.tree.globals part.labels a) (global there.tree.globals part.labels b) (enumerate_from n part.wasm.globals) (λ k d e.
        let lt : k < length part.wasm.globals = omega (arith, slice_get_within (enumerate_from n part.wasm.globals) k d e, length-enumerate_from n part.wasm.globals) in
        let x = at_place part.wasm.globals (length part.wasm.globals) k refl lt in
        let found = get_numbered n part.wasm.globals k x.0 x.1 in
        let initial = all_get (λ (global : DefinedGlobal). IsInitial (imported global_of part.wasm) global.kind.kind global.initial) part.wasm.globals k x.0 typed.rules.initials x.1 in
        let few : length (imported global_of part.wasm) ≤ length a.globals = omega (arith, globals_counted here part.wasm ours suit, length-append (imported global_of part.wasm) (map (λ (global : DefinedGlobal). global.kind) part.wasm.globals)) in
        let value : constant_value here.tree.globals a x.0.initial ≡ constant_value there.tree.globals b x.0.initial =
        constants_same s a b alike here.tree.globals there.tree.globals beside.trees.globals x.0.initial (initial_names (imported global_of part.wasm) (length a.globals) few x.0.kind.kind x.0.initial initial) in
        subst (λ d. global here.tree.globals part.labels a d ≡ global there.tree.globals part.labels b d) (same_Some (n + k, x.0) d (sym found ∙ e))
        (ap (λ v. global_of_value (global here.tree.globals part.labels a (n + k, x.0)) v) value))

    entry_alike : (kind : ExportKind) (i : ℕ) → i < space_of part.wasm kind → NumberAlike s kind (number (space a kind) i) (number (space b kind) i)
    entry_alike export.Function i lt = zip_numbered (NumberAlike s export.Function) a.functions b.functions i alike.functions (omega (arith, lt, functions_counted here part.wasm ours suit))
    entry_alike export.Table i lt = zip_numbered (NumberAlike s export.Table) a.tables b.tables i alike.tables (omega (arith, lt, tables_counted here part.wasm ours suit))
    entry_alike export.Memory i lt = zip_numbered (NumberAlike s export.Memory) a.memories b.memories i alike.memories (omega (arith, lt, memories_counted here part.wasm ours suit))
    entry_alike export.Global i lt = zip_numbered (NumberAlike s export.Global) a.globals b.globals i alike.globals (omega (arith, lt, globals_counted here part.wasm ours suit))

    entries_alike : (entries : List Export) → All (λ entry. entry.index < space_of part.wasm entry.kind) entries → AllZip (EntryAlike s) (map (exported part.name a) entries) (map (exported part.name b) entries)
    entries_alike [] h = tt
    entries_alike (entry ∷ entries) h = (
      (refl, record { kind = refl; number = entry_alike entry.kind entry.index (All-head (λ (entry : Export). entry.index < space_of part.wasm entry.kind) entry entries h) }),
      entries_alike entries (All-tail (λ (entry : Export). entry.index < space_of part.wasm entry.kind) entry entries h),
    )

    part_beside : StoresBeside s stub (with_part here part a) library (with_part there part b)
    part_beside = record {
      trees = record {
        types = append_beside (λ x. x) (λ x. x) s.stub.types here.tree.types s.library.types there.tree.types (map signature part.wasm.types) (map signature part.wasm.types) beside.trees.types refl;
        functions = append_beside (function_by s.ours) (function_by s.theirs) s.stub.functions here.tree.functions s.library.functions there.tree.functions _ _ beside.trees.functions
            (functions_alike s agree part.wasm part.labels typed a b alike counts (functions_counted here part.wasm ours suit) (globals_counted here part.wasm ours suit));
        globals = append_beside (λ x. x) (λ x. x) s.stub.globals here.tree.globals s.library.globals there.tree.globals _ _ beside.trees.globals globals_alike;
        memories = append_beside (λ x. x) (λ x. x) s.stub.memories here.tree.memories s.library.memories there.tree.memories _ _ beside.trees.memories
            (ap (λ k. map (λ x. x) (map (memory part.labels) (enumerate_from (k - length part.wasm.memories) part.wasm.memories))) (zip_length (NumberAlike s export.Memory) a.memories b.memories alike.memories));
        tables = append_beside (slots_by s.ours) (slots_by s.theirs) s.stub.tables here.tree.tables s.library.tables there.tree.tables _ _ beside.trees.tables
            (images (slots_by s.ours) (slots_by s.theirs) table table part.wasm.tables (λ k d e. empty_slots s.ours.names.function s.theirs.names.function d.min));
      };
      exports = record {
        ours = beside.exports.ours ++ map (exported part.name a) part.wasm.exports;
        theirs = beside.exports.theirs ++ map (exported part.name b) part.wasm.exports;
        here_is = ap (λ l. l ++ map (exported part.name a) part.wasm.exports) beside.exports.here_is ∙ append_assoc stub.exports beside.exports.ours (map (exported part.name a) part.wasm.exports);
        there_is = ap (λ l. l ++ map (exported part.name b) part.wasm.exports) beside.exports.there_is ∙ append_assoc library.exports beside.exports.theirs (map (exported part.name b) part.wasm.exports);
        alike = zip_append (EntryAlike s) beside.exports.ours (map (exported part.name a) part.wasm.exports) beside.exports.theirs (map (exported part.name b) part.wasm.exports)
            beside.exports.alike (entries_alike part.wasm.exports typed.rules.exports);
      };
    }

    initialised_beside : StoresBeside s stub (record (with_part here part a) { tree = initialised part.wasm.elements part.wasm.segments a (with_part here part a).tree })
        library (record (with_part there part b) { tree = initialised part.wasm.elements part.wasm.segments b (with_part there part b).tree })
    initialised_beside =
        let one : Tree = (with_part here part a).tree in
        let other : Tree = (with_part there part b).tree in
        let functions = functions_counted here part.wasm ours suit in
        let globals = globals_counted here part.wasm ours suit in
        let tables = tables_counted here part.wasm ours suit in
        let memories = memories_counted here part.wasm ours suit in
        record {
          trees = record {
            types = part_beside.trees.types;
            functions = part_beside.trees.functions;
            globals = part_beside.trees.globals;
            memories = data_beside s a b alike one.globals other.globals part_beside.trees.globals part.wasm functions globals tables memories part.wasm.segments typed.rules.segments one.memories other.memories part_beside.trees.memories;
            tables = elements_beside s a b alike one.globals other.globals part_beside.trees.globals part.wasm functions globals tables memories part.wasm.elements typed.rules.elements one.tables other.tables part_beside.trees.tables;
          };
          exports = part_beside.exports;
        }

  next_beside : (here there one other : Store) (part : Part) (m n : ℕ) → IsSound part → All (IsGiven s stub.exports library.exports) part.wasm.imports → StoresBeside s stub here library there
      → with_next (Ok here) (m, part) ≡ Ok one → with_next (Ok there) (n, part) ≡ Ok other → StoresBeside s stub one library other
  next_beside here there one other part m n sound imports beside e f =
      let x = on_ok_is (all_given here part.wasm m) (with_given here (m, part)) one e in
      let y = on_ok_is (all_given there part.wasm n) (with_given there (n, part)) other f in
      let given = all_alike s stub here library there part.wasm m n beside part.wasm.imports 0 0 x.0 y.0 imports x.1 y.1 in
      let suit = all_suit here part.wasm m 0 part.wasm.imports x.0 x.1 in
      subst (λ one. StoresBeside s stub one library other) (made here one part m x.0 x.2)
      (subst (λ other. StoresBeside s stub (record (with_part here part (spaces_of here part.wasm x.0)) { tree = initialised part.wasm.elements part.wasm.segments (spaces_of here part.wasm x.0) (with_part here part (spaces_of here part.wasm x.0)).tree }) library other) (made there other part n y.0 y.2)
      (initialised_beside here there part x.0 y.0 sound.typed beside given suit))

  links_beside : (users : List Part) (m n : ℕ) (here there client whole : Store) → All IsSound users → All (λ user. All (IsGiven s stub.exports library.exports) user.wasm.imports) users
      → StoresBeside s stub here library there
      → fold with_next (Ok here) (enumerate_from m users) ≡ Ok client → fold with_next (Ok there) (enumerate_from n users) ≡ Ok whole → StoresBeside s stub client library whole
  links_beside [] m n here there client whole sound imports beside e f =
      subst (λ one. StoresBeside s stub one library whole) (ok_same here client e) (subst (λ other. StoresBeside s stub here library other) (ok_same there whole f) beside)
  links_beside (user ∷ users) m n here there client whole sound imports beside e f =
      let one = split_next here client user users m e in
      let other = split_next there whole user users n f in
      links_beside users (m + 1) (n + 1) one.0 other.0 client whole (All-tail IsSound user users sound)
      (All-tail (λ (user : Part). All (IsGiven s stub.exports library.exports) user.wasm.imports) user users imports)
      (next_beside here there one.0 other.0 user m n (All-head IsSound user users sound)
      (All-head (λ (user : Part). All (IsGiven s stub.exports library.exports) user.wasm.imports) user users imports) beside one.1 other.1) one.2 other.2

-- ---- whole trees

begins_at : {A B : Type 0} (f g : A → B) (stub library one other : List A) → stub ≡ one → library ≡ other → Beside f g stub one library other
begins_at f g stub library one other a b =
    record { here = []; there = []; client_is = sym a ∙ sym (append-nil stub); whole_is = sym b ∙ sym (append-nil library); alike = refl }

begins : (s : Setting) (stub library : Store) → s.stub ≡ stub.tree → s.library ≡ library.tree → StoresBeside s stub stub library library
begins s stub library a b = record {
  trees = record {
    types = begins_at _ _ s.stub.types s.library.types stub.tree.types library.tree.types (ap (λ (t : Tree). t.types) a) (ap (λ (t : Tree). t.types) b);
    functions = begins_at _ _ s.stub.functions s.library.functions stub.tree.functions library.tree.functions (ap (λ (t : Tree). t.functions) a) (ap (λ (t : Tree). t.functions) b);
    globals = begins_at _ _ s.stub.globals s.library.globals stub.tree.globals library.tree.globals (ap (λ (t : Tree). t.globals) a) (ap (λ (t : Tree). t.globals) b);
    memories = begins_at _ _ s.stub.memories s.library.memories stub.tree.memories library.tree.memories (ap (λ (t : Tree). t.memories) a) (ap (λ (t : Tree). t.memories) b);
    tables = begins_at _ _ s.stub.tables s.library.tables stub.tree.tables library.tree.tables (ap (λ (t : Tree). t.tables) a) (ap (λ (t : Tree). t.tables) b);
  };
  exports = record { ours = []; theirs = []; here_is = sym (append-nil stub.exports); there_is = sym (append-nil library.exports); alike = tt };
}

fold_append : {A B : Type 0} (f : B → A → B) (so_far : B) (xs ys : List A) → fold f so_far (xs ++ ys) ≡ fold f (fold f so_far xs) ys
fold_append f so_far [] ys = refl
fold_append f so_far (x ∷ xs) ys = fold_append f (f so_far x) xs ys

numbered_append : {A : Type 0} (n : ℕ) (xs ys : List A) → enumerate_from n (xs ++ ys) ≡ enumerate_from n xs ++ enumerate_from (n + length xs) ys
numbered_append n [] ys = let e : n ≡ n + 0 = omega arith in ap (λ n. enumerate_from n ys) e
numbered_append n (x ∷ xs) ys =
    let e : n + 1 + length xs ≡ n + length (x ∷ xs) = omega arith in
    ap (λ more. (n, x) ∷ more) (numbered_append (n + 1) xs ys ∙ ap (λ k. enumerate_from (n + 1) xs ++ enumerate_from k ys) e)

-- the store of a tree that was linked behind others
pub record LinkedBehind (store : Store) (count : ℕ) (users : List Part) (tree : Tree) : Type 0 where
  pub last : Store
  pub run : fold with_next (Ok store) (enumerate_from count users) ≡ Ok last
  pub same : last.tree ≡ tree

pub linked_behind : (parts users : List Part) (store : Store) (tree : Tree) → fold with_next (Ok nothing) (enumerate_from 0 parts) ≡ Ok store → links (parts ++ users) ≡ Ok tree
    → LinkedBehind store (0 + length parts) users tree
linked_behind parts users store tree e h =
    let one = on_ok_is (fold with_next (Ok nothing) (enumerate_from 0 (parts ++ users))) within_reserve tree h in
    let split : fold with_next (Ok nothing) (enumerate_from 0 (parts ++ users)) ≡ fold with_next (Ok store) (enumerate_from (0 + length parts) users) =
    ap (λ xs. fold with_next (Ok nothing) xs) (numbered_append 0 parts users) ∙ fold_append with_next (Ok nothing) (enumerate_from 0 parts) (enumerate_from (0 + length parts) users)
    ∙ ap (λ so_far. fold with_next so_far (enumerate_from (0 + length parts) users)) e in
    let k = if_ok (nat_le (reserves one.0.tree) (limit_of Reserve)) (Ok one.0.tree) (Limit Reserve (reserves one.0.tree)) tree one.2 in
    record { last = one.0; run = sym split ∙ one.1; same = ok_same one.0.tree tree k.1 }

-- the stores of what is linked in both ways stand beside one another
pub record AreLinkedBeside (s : Setting) (stubs libraries users : List Part) (given : AreGiven s stubs libraries users) (client whole : Tree) : Type 0 where
  pub ours : LinkedBehind given.one (0 + length stubs) users client
  pub theirs : LinkedBehind given.other (0 + length libraries) users whole
  pub stores : StoresBeside s given.one ours.last given.other theirs.last

pub stores_beside : (s : Setting) → Agree s → (stubs libraries users : List Part) (client whole : Tree) → All IsSound users → (given : AreGiven s stubs libraries users)
    → links (stubs ++ users) ≡ Ok client → links (libraries ++ users) ≡ Ok whole → AreLinkedBeside s stubs libraries users given client whole
stores_beside s agree stubs libraries users client whole sound given e f =
    let a = linked_behind stubs users given.one client given.one_is e in
    let b = linked_behind libraries users given.other whole given.other_is f in
    record {
      ours = a;
      theirs = b;
      stores = links_beside s agree given.one given.other users (0 + length stubs) (0 + length libraries) given.one given.other a.last b.last sound given.imports
          (begins s given.one given.other given.one_tree given.other_tree) a.run b.run;
    }

pub users_beside : (s : Setting) → Agree s → (stubs libraries users : List Part) (client whole : Tree) → All IsSound users → AreGiven s stubs libraries users
    → links (stubs ++ users) ≡ Ok client → links (libraries ++ users) ≡ Ok whole → AreBeside s.ours s.theirs s.stub client s.library whole
users_beside s agree stubs libraries users client whole sound given e f =
    let are = stores_beside s agree stubs libraries users client whole sound given e f in
    subst (λ (t : Tree). AreBeside s.ours s.theirs s.stub t s.library whole) are.ours.same
    (subst (λ (t : Tree). AreBeside s.ours s.theirs s.stub are.ours.last.tree s.library t) are.theirs.same are.stores.trees)
