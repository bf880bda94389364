-- What trees export is what their stores export.
use Rattle.std.proofs.Common.{◌≡◌, ◌∙◌, refl, sym, ap, ap₂, subst, ℕ, ◌+◌, List, [], ◌∷◌, ◌++◌, length, map, filter_map, Option, Some, None, slice_get, Ok, inl, inr, arith}
use Rattle.std.specs.Prelude.{fold, nat_le}
use Rattle.std.specs.List.{All, Contains, cons_option, enumerate_from}
use Rattle.std.proofs.lemmas.List.Elements.{All-weaker, at_from_Contains, filter_map-append}
use Rattle.std.proofs.lemmas.Option.{slice_get-get_or, same_Some}
use Rattle.bl_base.proofs.Lists.{all_get}
use Rattle.bl_base.specs.Quantity.{limit_of}
use Rattle.bl_base.specs.declared.quantity.Quantity.TheVariants.{Reserve}
use Rattle.bl_wasm.specs.Exports.{value_named}
use Rattle.bl_wasm.specs.declared.module.ExportKind.{ExportKind}
use Rattle.bl_wasm.specs.declared.module.ExportKind.TheVariants as export
use Rattle.bl_wasm.specs.declared.module.Import.{Import}
use Rattle.bl_wasm.specs.declared.linked.Tree.{Tree}
use Rattle.bl_wasm.proofs.NamedLemmas.{value_found, value_none}
use Rattle.bl_apart.specs.BesideStores.{AreGiven, Exports, IsGiven, IsOffered, NumberAlike, Setting, ValueAlike}
use Rattle.bl_link.specs.ExportNames.{qualified}
use Rattle.bl_link.specs.ImportMatches.{all_given as values_given}
use Rattle.bl_link.specs.IndexSpaces.{spaces_of}
use Rattle.bl_link.specs.declared.part.Part.{Part}
use Rattle.bl_link.specs.declared.error.LinkError.TheVariants.{Limit}
use Rattle.bl_apart.specs.LinkedTypes.{External, Store}
use Rattle.bl_link.specs.Linkable.{AreParts, IsPart, IsSound}
use Rattle.bl_link.specs.Links.{exported, links, nothing, of_function, pair, reserves, with_given, with_next, within_reserve}
use Rattle.bl_link.specs.Stores.{IsStore, ValueOfPart}
use Rattle.bl_apart.proofs.BesideLinks.{made, split_next}
use Rattle.bl_link.proofs.LinkedTrees.{all_kept, if_ok, ok_same, on_ok_is}
use Rattle.bl_link.proofs.NameLemmas.{before_solidus, came}
use Rattle.bl_link.proofs.NumberedLists.{get_left, get_right}

-- ---- a tree's exports among its store's

filter_image : {A B C : Type 0} (h : B → Option C) (g : A → B) (xs : List A) → filter_map h (map g xs) ≡ filter_map (λ x. h (g x)) xs
filter_image h g [] = refl
filter_image h g (x ∷ xs) = ap (cons_option (h (g x))) (filter_image h g xs)

abbrev pub ArePairs : Store → Type 0
ArePairs store = store.tree.exports ≡ filter_map pair store.exports

pairs_next : (store next : Store) (part : Part) (n : ℕ) → ArePairs store → with_next (Ok store) (n, part) ≡ Ok next → ArePairs next
pairs_next store next part n h e =
    let x = on_ok_is (values_given store part.wasm n) (with_given store (n, part)) next e in
    let spaces = spaces_of store part.wasm x.0 in
    subst ArePairs (made store next part n x.0 x.2)
    (ap₂ (λ (a b : List (List ℕ × ℕ)). a ++ b) h (sym (filter_image pair (exported part.name spaces) part.wasm.exports)) ∙ sym (filter_map-append pair store.exports (map (exported part.name spaces) part.wasm.exports)))

pub pairs_all : (parts : List Part) (n : ℕ) (store last : Store) → ArePairs store → fold with_next (Ok store) (enumerate_from n parts) ≡ Ok last → ArePairs last
pairs_all [] n store last h e = subst ArePairs (ok_same store last e) h
pairs_all (part ∷ parts) n store last h e =
    let s = split_next store last part parts n e in
    pairs_all parts (n + 1) s.0 last (pairs_next store s.0 part n h s.1) s.2

-- ---- values of names

pub pair_is : (kind : ExportKind) (own : List ℕ × ℕ) (one : List ℕ × ℕ) → of_function kind own ≡ Some one → (kind ≡ export.Function) × (own ≡ one)
pair_is export.Function own one e = (refl, same_Some own one e)
pair_is export.Table own one e = absurd (cc e)
pair_is export.Memory own one e = absurd (cc e)
pair_is export.Global own one e = absurd (cc e)

-- what a tree exports by a name has that name's value
pub record HasValue (store : Store) (name : List ℕ) (function : ℕ) : Type 0 where
  pub value : External
  pub kind : value.kind ≡ export.Function
  pub number : value.number ≡ function
  pub found : value_named name store.exports ≡ Some value

pub exported_value : (done : List Part) (store : Store) (name : List ℕ) (function : ℕ) → IsStore done store → ArePairs store → Exports store.tree name function → HasValue store name function
exported_value done store name function is pairs there =
    let from = came pair store.exports there.0 (name, function) (ap (λ xs. slice_get xs there.0) (sym pairs) ∙ there.1) in
    let same = pair_is from.source.1.kind (from.source.0, from.source.1.number) (name, function) from.gave in
    record {
      value = from.source.1;
      kind = same.0;
      number = ap (λ (p : List ℕ × ℕ). p.1) same.1;
      found = subst (λ name. value_named name store.exports ≡ Some from.source.1) (ap (λ (p : List ℕ × ℕ). p.0) same.1) (value_found store.exports from.place from.source is.values_distinct from.found);
    }

-- no part before the users exports by a user's name
pub own_value : (done users : List Part) (store : Store) (user : Part) (rest : List ℕ) → AreParts (done ++ users) → IsStore done store → Contains users user → value_named (qualified user.name rest) store.exports ≡ None
own_value done users store user rest are is contains = value_none (qualified user.name rest) store.exports (λ i v e same.
    let of_part = all_get (ValueOfPart done) store.exports i v is.values_named e in
    let part : Part = of_part.0 in
    let p = at_from_Contains done part of_part.1 in
    let u = at_from_Contains users user contains in
    let there : slice_get (done ++ users) p.0 ≡ Some part = get_left done users p.0 part (slice_get-get_or done p.0 part p.1 ∙ ap (λ (q : Part). Some q) (p.2 part)) in
    let here : slice_get (done ++ users) (length done + u.0) ≡ Some user = get_right done users u.0 ∙ slice_get-get_or users u.0 user u.1 ∙ ap (λ (q : Part). Some q) (u.2 user) in
    let one = all_get IsPart (done ++ users) p.0 part are.each there in
    let other = all_get IsPart (done ++ users) (length done + u.0) user are.each here in
    let names : part.name ≡ user.name = before_solidus part.name user.name of_part.2 rest one.name other.name (sym of_part.3 ∙ same) in
    let clash = are.distinct p.0 (length done + u.0) part user there here names in
    omega (arith, clash, p.1))

-- ---- the whole

pub record IsLinkedStore (parts : List Part) (tree : Tree) : Type 0 where
  pub store : Store
  pub run : fold with_next (Ok nothing) (enumerate_from 0 parts) ≡ Ok store
  pub same : store.tree ≡ tree

pub store_of : (parts : List Part) (tree : Tree) → links parts ≡ Ok tree → IsLinkedStore parts tree
store_of parts tree h =
    let one = on_ok_is (fold with_next (Ok nothing) (enumerate_from 0 parts)) within_reserve tree h in
    let k = if_ok (nat_le (reserves one.0.tree) (limit_of Reserve)) (Ok one.0.tree) (Limit Reserve (reserves one.0.tree)) tree one.2 in
    record { store = one.0; run = one.1; same = ok_same one.0.tree tree k.1 }

function_alike : (s : Setting) (a b : External) (f g : ℕ) → a.kind ≡ export.Function → b.kind ≡ export.Function → a.number ≡ f → b.number ≡ g → s.ours.names.function f ≡ s.theirs.names.function g → ValueAlike s a b
function_alike s a b f g k l m n e = record {
  kind = k ∙ sym l;
  number = subst (λ kind. NumberAlike s kind a.number b.number) (sym k) (ap s.ours.names.function m ∙ e ∙ sym (ap s.theirs.names.function n));
}

pub all_given : (s : Setting) (stubs libraries users : List Part) → AreParts (stubs ++ users) → AreParts (libraries ++ users) → All IsSound stubs → All IsSound libraries
    → AreParts stubs → AreParts libraries → links stubs ≡ Ok s.stub → links libraries ≡ Ok s.library → All (λ user. All (IsOffered s users) user.wasm.imports) users → AreGiven s stubs libraries users
all_given s stubs libraries users here there sound sounds parts others e f offered =
    let a = store_of stubs s.stub e in
    let b = store_of libraries s.library f in
    let a_is = all_kept stubs a.store parts sound a.run in
    let b_is = all_kept libraries b.store others sounds b.run in
    record {
      one = a.store;
      other = b.store;
      one_is = a.run;
      other_is = b.run;
      one_tree = sym a.same;
      other_tree = sym b.same;
      imports = All-weaker (λ (user : Part). All (IsOffered s users) user.wasm.imports) (λ (user : Part). All (IsGiven s a.store.exports b.store.exports) user.wasm.imports)
          (λ user. All-weaker (IsOffered s users) (IsGiven s a.store.exports b.store.exports) (one_given a.store b.store a_is b_is (pairs_all stubs 0 nothing a.store refl a.run) (pairs_all libraries 0 nothing b.store refl b.run) a.same b.same) user.wasm.imports) users offered;
    }
  where
    one_given : (one other : Store) → IsStore stubs one → IsStore libraries other → ArePairs one → ArePairs other → one.tree ≡ s.stub → other.tree ≡ s.library
        → (wanted : Import) → IsOffered s users wanted → IsGiven s one.exports other.exports wanted
    one_given one other is be p q x y wanted (inl h) =
        inl (
          subst (λ (name : List ℕ). value_named (qualified name wanted.name) one.exports ≡ None) h.2 (own_value stubs users one h.0 wanted.name here is h.1),
          subst (λ (name : List ℕ). value_named (qualified name wanted.name) other.exports ≡ None) h.2 (own_value libraries users other h.0 wanted.name there be h.1),
        )
    one_given one other is be p q x y wanted (inr h) =
        let name : List ℕ = qualified wanted.from wanted.name in
        let v = exported_value stubs one name h.0 is p (subst (λ (t : Tree). Exports t name h.0) (sym x) h.2) in
        let w = exported_value libraries other name h.1 be q (subst (λ (t : Tree). Exports t name h.1) (sym y) h.3) in
        inr (v.value, w.value, v.found, w.found, function_alike s v.value w.value h.0 h.1 v.kind w.kind v.number w.number h.4)
