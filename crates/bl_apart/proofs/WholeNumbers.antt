-- The whole tree's numbers in the joined tree.
use Rattle.std.proofs.Common.{◌≡◌, ℕ, ◌+◌, ◌-◌, ◌<◌, ◌≤◌, Bool, true, false, ltb, List, ◌++◌, length, map, Some, None, slice_get, refl, sym, ap, ap₂, ◌∙◌, subst, arith}
use Rattle.std.specs.Prelude.{option_map, if◌then◌else◌, unwrap_or}
use Rattle.std.specs.List.{All}
use Rattle.std.proofs.lemmas.Bool.{lt-ltb, ltb-true, ltb-false}
use Rattle.std.proofs.lemmas.List.{length-map, length-append}
use Rattle.std.proofs.lemmas.Option.{slice_get_within}
use Rattle.bl_base.proofs.Lists.{all_get, get_mapped, mapped_get}
use Rattle.bl_iface.specs.declared.iface.Iface.{Iface}
use Rattle.bl_wasm.specs.Linked.{IsFunction, IsLinked, IsSlot}
use Rattle.bl_wasm.specs.declared.linked.Tree.{Tree}
use Rattle.bl_rename.specs.Renamings.{Carries, Numbers, Parts, Renames, function_by, slots_by}
use Rattle.bl_whole.specs.JoinedTree.{client_numbers, goes_among, joined_tree, library_numbers}
use Rattle.bl_apart.specs.Beside.{AreBeside, Beside}
use Rattle.bl_apart.specs.BesideStores.{Agree}
use Rattle.bl_apart.specs.LinkedApart.{behind, setting, whole_numbers}
use Rattle.bl_rename.proofs.NamedInRange.{AgreeIn, function_same, slots_same}
use Rattle.bl_program.proofs.AppendLemmas.{get_left, get_right}
use Rattle.bl_apart.proofs.BesideSegments.{map_itself}

-- ---- numbers

pub low : (library client stub i : ℕ) → i < library → behind library client stub i ≡ client + i
low library client stub i lt = ap (λ test. if test then client + i else stub + (i - library)) (lt-ltb i library lt)

high : (library client stub i j : ℕ) → i ≡ library + j → behind library client stub i ≡ stub + j
high library client stub i j e = by (ltb i library) refl
  where
    by : (test : Bool) → ltb i library ≡ test → (if test then client + i else stub + (i - library)) ≡ stub + j
    by true h = let lt = ltb-true i library h in absurd (omega (arith, lt, e))
    by false h = omega (arith, e)

-- a number is one of the library's, or so many behind it
pub data Where (library i : ℕ) : Type 0 where
  in_library : i < library → Where library i
  in_users : (j : ℕ) → i ≡ library + j → Where library i

pub where_is : (library i : ℕ) → Where library i
where_is library i = by (ltb i library) refl
  where
    by : (test : Bool) → ltb i library ≡ test → Where library i
    by true h = in_library (ltb-true i library h)
    by false h = let le = ltb-false i library h in in_users (i - library) (omega (arith, le))

stay_apart : (library client stub users : ℕ) → client ≡ stub + users → Parts (behind library client stub) (library + users)
stay_apart library client stub users e i j lt lu same = by (where_is library i) (where_is library j)
  where
    by : Where library i → Where library j → i ≡ j
    by (in_library h) (in_library k) =
        let a = low library client stub i h in let b = low library client stub j k in omega (arith, a, b, same)
    by (in_library h) (in_users y k) =
        let a = low library client stub i h in let b = high library client stub j y k in absurd (omega (arith, a, b, same, e, k, lu))
    by (in_users x h) (in_library k) =
        let a = high library client stub i x h in let b = low library client stub j k in absurd (omega (arith, a, b, same, e, h, lt))
    by (in_users x h) (in_users y k) =
        let a = high library client stub i x h in let b = high library client stub j y k in omega (arith, a, b, same, h, k)

-- ---- lists

module _ {A B : Type 0} (ours theirs moved : A → B) (stub client library whole : List A) (beside : Beside ours theirs stub client library whole)
    (same : (i : ℕ) (x : A) → slice_get library i ≡ Some x → theirs x ≡ moved x) where
  count_here : length client ≡ length stub + length beside.here
  count_here = ap length beside.client_is ∙ length-append stub beside.here

  pub carried : Carries (behind (length library) (length client) (length stub)) (map theirs whole) (map ours client ++ map moved library)
  carried i y e = by (where_is (length library) i)
    where
      found : (x : A) × (slice_get whole i ≡ Some x) × (theirs x ≡ y)
      found = mapped_get theirs whole i y e

      in_parts : slice_get (library ++ beside.there) i ≡ Some found.0
      in_parts = ap (λ xs. slice_get xs i) (sym beside.whole_is) ∙ found.1

      by : Where (length library) i → slice_get (map ours client ++ map moved library) (behind (length library) (length client) (length stub) i) ≡ Some y
      by (in_library lt) =
          let here : slice_get library i ≡ Some found.0 = sym (get_left library beside.there i lt) ∙ in_parts in
          let count = length-map client ours in
          let place = low (length library) (length client) (length stub) i lt in
          get_right (map ours client) (map moved library) (behind (length library) (length client) (length stub) i) i (omega (arith, place, count))
          ∙ get_mapped moved library i found.0 here ∙ ap Some (sym (same i found.0 here) ∙ found.2)
      by (in_users j split) =
          let there : slice_get beside.there j ≡ Some found.0 = sym (get_right library beside.there i j split) ∙ in_parts in
          let image : slice_get (map ours beside.here) j ≡ Some y = ap (λ xs. slice_get xs j) beside.alike ∙ get_mapped theirs beside.there j found.0 there ∙ ap Some found.2 in
          let mine = mapped_get ours beside.here j y image in
          let within = slice_get_within beside.here j mine.0 mine.1 in
          let place = high (length library) (length client) (length stub) i j split in
          let count = length-map client ours in
          let sum = count_here in
          let stands : slice_get client (behind (length library) (length client) (length stub) i) ≡ Some mine.0 =
          ap (λ xs. slice_get xs (behind (length library) (length client) (length stub) i)) beside.client_is
          ∙ get_right stub beside.here (behind (length library) (length client) (length stub) i) j place ∙ mine.1 in
          get_left (map ours client) (map moved library) (behind (length library) (length client) (length stub) i) (omega (arith, place, count, sum, within))
          ∙ get_mapped ours client (behind (length library) (length client) (length stub) i) mine.0 stands ∙ ap Some mine.2

  pub parts_apart : Parts (behind (length library) (length client) (length stub)) (length whole)
  parts_apart =
      let here : length (map ours beside.here) ≡ length (map theirs beside.there) = ap length beside.alike in
      let a = length-map beside.here ours in
      let b = length-map beside.there theirs in
      let sum : length library + length beside.here ≡ length whole = omega (arith, here, a, b, ap length beside.whole_is ∙ length-append library beside.there) in
      subst (Parts (behind (length library) (length client) (length stub))) sum
      (stay_apart (length library) (length client) (length stub) (length beside.here) count_here)

plain : {A : Type 0} (stub client library whole : List A) → Beside (λ x. x) (λ x. x) stub client library whole
    → Carries (behind (length library) (length client) (length stub)) whole (client ++ library)
plain {A} stub client library whole beside =
    subst (λ (xs : List A). Carries (behind (length library) (length client) (length stub)) xs (client ++ library)) (map_itself whole)
    (subst (λ (xs : List A). Carries (behind (length library) (length client) (length stub)) (map (λ x. x) whole) xs) (ap₂ (λ (a b : List A). a ++ b) (map_itself client) (map_itself library))
    (carried (λ x. x) (λ x. x) (λ x. x) stub client library whole beside (λ i x e. refl)))

-- the client's numbers and the whole tree's agree on what stands behind the stub and behind the library
pub agrees : (iface : Iface) (stub client library : Tree) → ((function : ℕ) → length stub.functions ≤ function → goes_among iface.functions client library function ≡ None) → Agree (setting iface stub client library)
agrees iface stub client library own = record {
  types = λ j. sym (high (length library.types) (length client.types) (length stub.types) (length library.types + j) j refl);
  functions = λ j.
      ap (λ o. unwrap_or (option_map (λ g. length client.functions + g) o) (length stub.functions + j)) (own (length stub.functions + j) (omega arith))
      ∙ sym (high (length library.functions) (length client.functions) (length stub.functions) (length library.functions + j) j refl);
  globals = λ j. sym (high (length library.globals) (length client.globals) (length stub.globals) (length library.globals + j) j refl);
  memories = λ j. let e = high (length library.memories) (length client.memories) (length stub.memories) (length library.memories + j) j refl in omega (arith, e);
  tables = λ j. let e = high (length library.tables) (length client.tables) (length stub.tables) (length library.tables + j) j refl in omega (arith, e);
}

-- ---- the whole

module _ (iface : Iface) (stub client library whole : Tree) (linked : IsLinked library)
    (beside : AreBeside (client_numbers iface client library) (whole_numbers stub client library) stub client library whole) where
  abbrev moved : Numbers
  moved = library_numbers client

  abbrev ours : Numbers
  ours = client_numbers iface client library

  abbrev theirs : Numbers
  theirs = whole_numbers stub client library

  agree : AgreeIn library theirs moved
  agree = record {
    types = λ i lt. low (length library.types) (length client.types) (length stub.types) i lt;
    functions = λ i lt. low (length library.functions) (length client.functions) (length stub.functions) i lt;
    globals = λ i lt. low (length library.globals) (length client.globals) (length stub.globals) i lt;
    memories = λ i lt. low (length library.memories) (length client.memories) (length stub.memories) i lt;
    tables = λ i lt. low (length library.tables) (length client.tables) (length stub.tables) i lt;
  }

  pub renames : Renames theirs whole (joined_tree client library iface)
  renames = record {
    types = plain stub.types client.types library.types whole.types beside.types;
    functions = carried (function_by ours) (function_by theirs) (function_by moved) stub.functions client.functions library.functions whole.functions beside.functions
        (λ i f e. function_same library theirs moved agree f (all_get (IsFunction library) library.functions i f linked.functions e));
    globals = plain stub.globals client.globals library.globals whole.globals beside.globals;
    memories = plain stub.memories client.memories library.memories whole.memories beside.memories;
    tables = carried (slots_by ours) (slots_by theirs) (slots_by moved) stub.tables client.tables library.tables whole.tables beside.tables
        (λ i t e. slots_same library theirs moved agree t (all_get (All (IsSlot library)) library.tables i t linked.tables e));
    global_parts = parts_apart (λ x. x) (λ x. x) (λ x. x) stub.globals client.globals library.globals whole.globals beside.globals (λ i x e. refl);
    memory_parts = parts_apart (λ x. x) (λ x. x) (λ x. x) stub.memories client.memories library.memories whole.memories beside.memories (λ i x e. refl);
  }
