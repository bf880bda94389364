-- Where the client's tree and the library's stand in the joined tree.
use Rattle.std.proofs.Common.{◌≡◌, ℕ, zero, suc, ◌+◌, ◌<◌, ◌≤◌, false, List, [], ◌∷◌, ◌++◌, length, map, Option, Some, None, slice_get, refl, sym, ap, ap₂, ◌∙◌, arith}
use Rattle.std.specs.Prelude.{if◌then◌else◌, nat_eq, option_map, option_and_then, unwrap_or}
use Rattle.std.specs.List.{All}
use Rattle.std.specs.Str.{bytes_eq}
use Rattle.std.proofs.lemmas.List.{length-map}
use Rattle.std.proofs.lemmas.Option.{none-some, same_Some, slice_get_within}
use Rattle.bl_base.proofs.Lists.{all_get, within_get}
use Rattle.bl_base.specs.declared.names.ValueType.{ValueType}
use Rattle.bl_wasm.specs.Linked.{IsFunction, IsLinked, type_of}
use Rattle.bl_wasm.specs.declared.linked.Function.{Function}
use Rattle.bl_wasm.specs.declared.linked.Signature.{Signature}
use Rattle.bl_wasm.specs.declared.linked.Tree.{Tree}
use Rattle.bl_program.specs.declared.definitions.FunctionDef.{FunctionDef}
use Rattle.bl_program.specs.declared.definitions.ProgramParts.{ProgramParts as Program}
use Rattle.bl_program.proofs.AppendLemmas.{get_left, get_right}
use Rattle.bl_emit.specs.Numbers.{function_size, function_variables, total}
use Rattle.bl_lower.specs.Trees.{export_def, low_tree}
use Rattle.bl_lower.proofs.DefinedFunctions.{has_type, is_defined}
use Rattle.bl_iface.specs.JoinedProgram.{HasSameTypes, Renaming, client_numbers, exported, goes, goes_by, kinds, library_numbers, types_of}
use Rattle.bl_iface.specs.declared.iface.FnIface.{FnIface}
use Rattle.bl_iface.specs.declared.iface.Iface.{Iface}
use Rattle.bl_iface.proofs.JoinedReads.{stands_for}
use Rattle.bl_wasm.specs.Exports.{value_named}
use Rattle.bl_wasm.specs.IndexMaps.{Names}
use Rattle.bl_rename.specs.Renamings.{function_by}
use Rattle.bl_access.proofs.Moving.{get_map}
use Rattle.bl_whole.specs.JoinedTree.{behind, client_names, goes_among, joined_tree, library_names}
use Rattle.bl_whole.proofs.PartTrees.{Placed, size_same, total_same, variables_same}

-- ---- where functions go

pub exported_same : (exports : List (List ℕ × ℕ)) (name : List ℕ) → exported (map export_def exports) name ≡ value_named name exports
exported_same [] name = refl
exported_same (pair ∷ exports) name = ap (λ o. if bytes_eq name pair.0 then Some pair.1 else o) (exported_same exports name)

goes_by_same : (functions : List FnIface) (client library : Tree) (f : ℕ) → goes_by functions (low_tree client) (low_tree library) f ≡ goes_among functions client library f
goes_by_same [] client library f = refl
goes_by_same (one ∷ others) client library f =
    ap (λ o. if unwrap_or (option_map (nat_eq f) o) false then exported (map export_def library.exports) one.name else goes_by others (low_tree client) (low_tree library) f)
    (exported_same client.exports one.name)
    ∙ ap₂ (λ (o r : Option ℕ). if unwrap_or (option_map (nat_eq f) (value_named one.name client.exports)) false then o else r)
    (exported_same library.exports one.name) (goes_by_same others client library f)

-- ---- types

abbrev Types : Type 0
Types = List ValueType × List ValueType

types_is : (tree : Tree) → IsLinked tree → (k : ℕ) (type : Signature) → type_of tree k ≡ Some type → types_of (low_tree tree) k ≡ Some (type.params, type.results)
types_is tree linked k type e =
    let d = is_defined tree linked k type e in
    ap (option_map (λ (f : FunctionDef). (kinds f.params, f.results))) d.exists ∙ ap₂ (λ (a b : List ValueType). let t : Types = (a, b) in Some t) d.kinds d.results

type_by : (client library : Tree) → IsLinked client → IsLinked library → (f g : ℕ) (type : Signature) → type_of client f ≡ Some type
    → types_of (low_tree client) f ≡ types_of (low_tree library) g → type_of library g ≡ Some type
type_by client library linked others f g type e same = by (slice_get (low_tree library).functions g) refl
  where
    by : (o : Option FunctionDef) → slice_get (low_tree library).functions g ≡ o → type_of library g ≡ Some type
    by None none =
        let gone : types_of (low_tree library) g ≡ None = ap (option_map (λ (f : FunctionDef). (kinds f.params, f.results))) none in
        absurd (none-some (type.params, type.results) (sym (sym (types_is client linked f type e) ∙ same ∙ gone)))
    by (Some defined) some =
        let h = has_type library others g defined some in
        let two = types_is library others g h.0 h.1 in
        let one : (type.params, type.results) ≡ (h.0.params, h.0.results) = same_Some (type.params, type.results) (h.0.params, h.0.results) (sym (types_is client linked f type e) ∙ same ∙ two) in
        h.1 ∙ ap (λ (t : Types). let s : Signature = record { params = t.0; results = t.1 } in Some s) (sym one)

-- ---- sums

module _ (of : Function → ℕ) where
  total_left : (xs ys : List Function) (k : ℕ) → k ≤ length xs → total of (xs ++ ys) k ≡ total of xs k
  total_left xs ys zero le = refl
  total_left [] ys (suc k) le = absurd (omega arith)
  total_left (x ∷ xs) ys (suc k) le = ap (λ n. of x + n) (total_left xs ys k (omega arith))

  total_right : (xs ys : List Function) (i k : ℕ) → i ≡ length xs + k → total of (xs ++ ys) i ≡ total of xs (length xs) + total of ys k
  total_right [] ys i k e = let same : i ≡ k = omega arith in ap (total of ys) same ∙ omega arith
  total_right (x ∷ xs) ys zero k e = absurd (omega arith)
  total_right (x ∷ xs) ys (suc i) k e = let rest = total_right xs ys i k (omega arith) in omega arith

module _ (client library : Tree) (iface : Iface) (linked : IsLinked client) (others : IsLinked library) (types : All (HasSameTypes (low_tree client) (low_tree library)) iface.functions) where
  abbrev pub W : Tree
  W = joined_tree client library iface

  abbrev pub P : Program
  P = low_tree client

  abbrev pub Q : Program
  Q = low_tree library

  abbrev pub ours : Names
  ours = client_names iface client library

  abbrev pub theirs : Names
  theirs = library_names client

  abbrev pub our_function : Function → Function
  our_function function = function_by (behind ours 0 0) function

  abbrev pub their_function : Function → Function
  their_function function = function_by (behind theirs (length client.memories) (length client.tables)) function

  abbrev mine : List Function
  mine = map our_function client.functions

  abbrev its : List Function
  its = map their_function library.functions

  pub mine_long : length mine ≡ length client.functions
  mine_long = length-map client.functions our_function

  pub goes_same : (f : ℕ) → goes iface P Q f ≡ goes_among iface.functions client library f
  goes_same f = goes_by_same iface.functions client library f

  -- ---- functions

  pub ours_at : (f : ℕ) → f < length client.functions → slice_get W.functions f ≡ option_map our_function (slice_get client.functions f)
  ours_at f lt = let long = mine_long in get_left mine its f (omega arith) ∙ get_map our_function client.functions f

  pub theirs_at : (g : ℕ) → slice_get W.functions (length client.functions + g) ≡ option_map their_function (slice_get library.functions g)
  theirs_at g = let long = mine_long in get_right mine its (length client.functions + g) g (omega arith) ∙ get_map their_function library.functions g

  pub type_ours : (f : ℕ) → f < length client.functions → type_of W f ≡ type_of client f
  type_ours f lt = ap (option_and_then (λ (one : Function). slice_get W.types one.type_index)) (ours_at f lt) ∙ by (slice_get client.functions f) refl
    where
      by : (o : Option Function) → slice_get client.functions f ≡ o
          → option_and_then (λ (one : Function). slice_get W.types one.type_index) (option_map our_function o) ≡ option_and_then (λ (one : Function). slice_get client.types one.type_index) o
      by None e = refl
      by (Some function) e =
          let is = all_get (IsFunction client) client.functions f function linked.functions e in
          get_left client.types library.types function.type_index (slice_get_within client.types function.type_index is.type is.exists)

  pub type_theirs : (g : ℕ) → type_of W (length client.functions + g) ≡ type_of library g
  type_theirs g = ap (option_and_then (λ (one : Function). slice_get W.types one.type_index)) (theirs_at g) ∙ by (slice_get library.functions g)
    where
      by : (o : Option Function) → option_and_then (λ (one : Function). slice_get W.types one.type_index) (option_map their_function o) ≡ option_and_then (λ (one : Function). slice_get library.types one.type_index) o
      by None = refl
      by (Some function) = get_right client.types library.types (length client.types + function.type_index) function.type_index refl

  -- a client's function that goes to the library has its type
  pub type_gone : (f g : ℕ) → f < length client.functions → goes iface P Q f ≡ Some g → type_of library g ≡ type_of client f
  type_gone f g lt e =
      let by = stands_for (HasSameTypes P Q) iface.functions P Q f g types e in
      let here = within_get client.functions f lt in
      let is = all_get (IsFunction client) client.functions f here.0 linked.functions here.1 in
      let typed : type_of client f ≡ Some is.type = ap (option_and_then (λ (one : Function). slice_get client.types one.type_index)) here.1 ∙ is.exists in
      type_by client library linked others f g is.type typed (by.1 f g by.2 by.3) ∙ sym typed

  our_called : (f : ℕ) → f < length client.functions → type_of W (ours.function f) ≡ type_of client f
  our_called f lt = by (goes_among iface.functions client library f) (goes_same f)
    where
      by : (o : Option ℕ) → goes iface P Q f ≡ o → type_of W (unwrap_or (option_map (λ g. length client.functions + g) o) f) ≡ type_of client f
      by None e = type_ours f lt
      by (Some g) e = type_theirs g ∙ type_gone f g lt e

  -- ---- the two parts

  pub our_place : Placed client W ours 0 0 (λ f. f)
  our_place = record {
    types = λ i lt. get_left client.types library.types i lt;
    slots = λ t lt.
        let same : 0 + t ≡ t = omega arith in
        let long = length-map client.tables (map (option_map ours.function)) in
        ap (slice_get W.tables) same ∙ get_left (map (map (option_map ours.function)) client.tables) (map (map (option_map theirs.function)) library.tables) t (omega arith) ∙ get_map (map (option_map ours.function)) client.tables t;
    called = our_called;
    own = λ f function e. ours_at f (slice_get_within client.functions f function e) ∙ ap (option_map our_function) e;
  }

  pub their_place : Placed library W theirs (length client.memories) (length client.tables) (λ f. length client.functions + f)
  their_place = record {
    types = λ i lt. get_right client.types library.types (length client.types + i) i refl;
    slots = λ t lt.
        let long = length-map client.tables (map (option_map ours.function)) in
        get_right (map (map (option_map ours.function)) client.tables) (map (map (option_map theirs.function)) library.tables) (length client.tables + t) t (omega arith) ∙ get_map (map (option_map theirs.function)) library.tables t;
    called = λ f lt. type_theirs f;
    own = λ f function e. theirs_at f ∙ ap (option_map their_function) e;
  }

  -- ---- sums over their functions

  abbrev N : Renaming
  N = client_numbers iface P Q

  abbrev M : Renaming
  M = library_numbers P Q

  pub our_size : (f : ℕ) (function : Function) → slice_get client.functions f ≡ Some function → function_size W (our_function function) ≡ function_size client function
  our_size f function e = size_same client W ours 0 0 (λ f. f) linked our_place N 0 0 f function e

  pub our_variables : (f : ℕ) (function : Function) → slice_get client.functions f ≡ Some function → function_variables W (our_function function) ≡ function_variables client function
  our_variables f function e = variables_same client W ours 0 0 (λ f. f) linked our_place N 0 0 f function e

  pub their_size : (f : ℕ) (function : Function) → slice_get library.functions f ≡ Some function → function_size W (their_function function) ≡ function_size library function
  their_size f function e = size_same library W theirs (length client.memories) (length client.tables) (λ f. length client.functions + f) others their_place M 0 0 f function e

  pub their_variables : (f : ℕ) (function : Function) → slice_get library.functions f ≡ Some function → function_variables W (their_function function) ≡ function_variables library function
  their_variables f function e = variables_same library W theirs (length client.memories) (length client.tables) (λ f. length client.functions + f) others their_place M 0 0 f function e

  -- of a measure that both keep
  module _ (of : Tree → Function → ℕ) (first : (f : ℕ) (function : Function) → slice_get client.functions f ≡ Some function → of W (our_function function) ≡ of client function)
      (second : (f : ℕ) (function : Function) → slice_get library.functions f ≡ Some function → of W (their_function function) ≡ of library function) where
    mine_total : (k : ℕ) → total (of W) mine k ≡ total (of client) client.functions k
    mine_total k = total_same client W ours 0 0 (λ f. f) linked our_place (of client) (of W) first client.functions k (λ i function e. (i, e))

    its_total : (k : ℕ) → total (of W) its k ≡ total (of library) library.functions k
    its_total k = total_same library W theirs (length client.memories) (length client.tables) (λ f. length client.functions + f) others their_place (of library) (of W) second library.functions k (λ i function e. (i, e))

    pub our_total : (k : ℕ) → k ≤ length client.functions → total (of W) W.functions k ≡ total (of client) client.functions k
    our_total k le = let long = mine_long in total_left (of W) mine its k (omega arith) ∙ mine_total k

    pub their_total : (k : ℕ) → total (of W) W.functions (length client.functions + k) ≡ total (of client) client.functions (length client.functions) + total (of library) library.functions k
    their_total k =
        let long = mine_long in
        total_right (of W) mine its (length client.functions + k) k (omega arith)
        ∙ ap₂ (λ a b. a + b) (ap (total (of W) mine) long ∙ mine_total (length client.functions)) (its_total k)
