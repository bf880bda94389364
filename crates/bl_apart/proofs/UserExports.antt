-- What users export: names of their own, and no function of the stub's goes by them.
use Rattle.std.proofs.Common.{◌≡◌, ◌∙◌, refl, sym, ap, subst, ℕ, zero, suc, ◌+◌, ◌<◌, ◌≤◌, List, [], ◌∷◌, ◌++◌, length, filter_map, true, false, Bool, Option, Some, None, slice_get, Ok, ◌⊎◌, inl, inr, arith, append-nil}
use Rattle.std.specs.Prelude.{fold, if◌then◌else◌, nat_eq, option_map, unwrap_or}
use Rattle.std.specs.List.{All, enumerate_from}
use Rattle.std.proofs.lemmas.List.{append_assoc}
use Rattle.std.proofs.lemmas.List.Elements.{All-append, All-weaker, Contains-append_right}
use Rattle.std.proofs.lemmas.Map.Views.{exact_unsigned_eq}
use Rattle.std.proofs.lemmas.Option.{none-some}
use Rattle.bl_base.proofs.Lists.{all_from, all_get}
use Rattle.bl_wasm.specs.Exports.{Pairs, value_named}
use Rattle.bl_wasm.specs.Linked.{IsLinked}
use Rattle.bl_wasm.specs.declared.linked.Tree.{Tree}
use Rattle.bl_wasm.proofs.NamedLemmas.{stands_at}
use Rattle.bl_link.specs.ImportMatches.{all_given}
use Rattle.bl_link.specs.IndexSpaces.{spaces_of}
use Rattle.bl_link.specs.declared.part.Part.{Part}
use Rattle.bl_apart.specs.LinkedTypes.{Store}
use Rattle.bl_link.specs.Linkable.{IsSound}
use Rattle.bl_link.specs.Links.{exported, nothing, pair, with_given, with_next}
use Rattle.bl_link.specs.Stores.{IsOfPart, OfPart}
use Rattle.bl_link.proofs.LinkedTrees.{all_kept, linked, ok_same, on_ok_is}
use Rattle.bl_link.proofs.NameLemmas.{came}
use Rattle.bl_iface.specs.declared.iface.FnIface.{FnIface}
use Rattle.bl_whole.specs.JoinedTree.{goes_among}
use Rattle.bl_apart.specs.BesideStores.{Exports}
use Rattle.bl_apart.specs.LinkedApart.{AreLinked}
use Rattle.bl_apart.proofs.BesideLinks.{linked_behind, made, split_next}
use Rattle.bl_apart.proofs.BesideOffers.{exported_value, own_value, pair_is, pairs_all, store_of}

-- ---- lists

pub append_cases : {A : Type 0} (xs ys : List A) (i : ℕ) (x : A) → slice_get (xs ++ ys) i ≡ Some x
    → (slice_get xs i ≡ Some x) ⊎ ((j : ℕ) × (i ≡ length xs + j) × (slice_get ys j ≡ Some x))
append_cases [] ys i x e = inr (i, omega arith, e)
append_cases (y ∷ xs) ys zero x e = inl e
append_cases (y ∷ xs) ys (suc i) x e = elim (append_cases xs ys i x e) [
  | inl h ↦ inl h
  | inr h ↦ let same = h.1 in inr (h.0, omega arith, h.2)
]

-- ---- names of what is linked behind others

-- what stands behind others' exports is named after users
pub record AreNamed (users : List Part) (first last : Pairs) : Type 0 where
  pub more : Pairs
  pub behind : last ≡ first ++ more
  pub named : All (OfPart users) more

part_named : (store next : Store) (part : Part) (users : List Part) (n : ℕ) → with_next (Ok store) (n, part) ≡ Ok next → AreNamed (part ∷ users) store.tree.exports next.tree.exports
part_named store next part users n e =
    let x = on_ok_is (all_given store part.wasm n) (with_given store (n, part)) next e in
    let spaces = spaces_of store part.wasm x.0 in
    let own = filter_map (λ entry. pair (exported part.name spaces entry)) part.wasm.exports in
    record {
      more = own;
      behind = sym (ap (λ (s : Store). s.tree.exports) (made store next part n x.0 x.2));
      named = all_from (OfPart (part ∷ users)) own (λ i one found.
          let c = came (λ entry. pair (exported part.name spaces entry)) part.wasm.exports i one found in
          let is = pair_is (exported part.name spaces c.source).1.kind ((exported part.name spaces c.source).0, (exported part.name spaces c.source).1.number) one c.gave in
          (part, (0, omega arith, refl), c.source.name, ap (λ (p : List ℕ × ℕ). p.0) (sym is.1)));
    }

users_named : (users : List Part) (n : ℕ) (store last : Store) → fold with_next (Ok store) (enumerate_from n users) ≡ Ok last → AreNamed users store.tree.exports last.tree.exports
users_named [] n store last e = record {
  more = [];
  behind = ap (λ (s : Store). s.tree.exports) (sym (ok_same store last e)) ∙ sym (append-nil store.tree.exports);
  named = all_from (OfPart []) [] (λ i one e. absurd (cc e));
}
users_named (user ∷ users) n store last e =
    let s = split_next store last user users n e in
    let one = part_named store s.0 user users n s.1 in
    let rest = users_named users (n + 1) s.0 last s.2 in
    record {
      more = one.more ++ rest.more;
      behind = rest.behind ∙ ap (λ (l : Pairs). l ++ rest.more) one.behind ∙ append_assoc store.tree.exports one.more rest.more;
      named = All-append (OfPart (user ∷ users)) one.more rest.more one.named
          (All-weaker (OfPart users) (OfPart (user ∷ users)) (λ p h. (h.0, Contains-append_right (user ∷ []) users h.0 h.1, h.2, h.3)) rest.more rest.named);
    }

module _ (stubs libraries users : List Part) (stub library client whole : Tree) (are : AreLinked stubs libraries users stub library client whole) where
  pub stub_linked : IsLinked stub
  stub_linked = linked stubs stub are.stub_parts are.stub_sound are.stub_is

  pub library_linked : IsLinked library
  library_linked = linked libraries library are.library_parts are.library_sound are.library_is

  pub client_linked : IsLinked client
  client_linked = linked (stubs ++ users) client are.client_parts (All-append IsSound stubs users are.stub_sound are.users_sound) are.client_is

  pub client_named : AreNamed users stub.exports client.exports
  client_named =
      let a = store_of stubs stub are.stub_is in
      let b = linked_behind stubs users a.store client a.run are.client_is in
      subst (λ (t : Tree). AreNamed users t.exports client.exports) a.same
      (subst (λ (t : Tree). AreNamed users a.store.tree.exports t.exports) b.same (users_named users (0 + length stubs) a.store b.last b.run))

  -- no name is a user's and the library's
  pub not_both : (name : List ℕ) (function : ℕ) → IsOfPart users name → Exports library name function → ⊥
  not_both name function of there =
      let a = store_of libraries library are.library_is in
      let is = all_kept libraries a.store are.library_parts are.library_sound a.run in
      let v = exported_value libraries a.store name function is (pairs_all libraries 0 nothing a.store refl a.run) (subst (λ (t : Tree). Exports t name function) (sym a.same) there) in
      let none = own_value libraries users a.store of.0 of.2 are.whole_parts is of.1 in
      none-some v.value (sym none ∙ ap (λ n. value_named n a.store.exports) (sym of.3) ∙ v.found)

  -- what the client exports is the stub's, or named after a user
  pub whose : (name : List ℕ) (function : ℕ) → Exports client name function → Exports stub name function ⊎ IsOfPart users name
  whose name function there = elim (append_cases stub.exports client_named.more there.0 (name, function) (ap (λ (l : Pairs). slice_get l there.0) (sym client_named.behind) ∙ there.1)) [
    | inl h ↦ inl (there.0, h)
    | inr h ↦ inr (all_get (OfPart users) client_named.more h.0 (name, function) client_named.named h.2)
  ]

  -- no function behind the stub's goes to the library
  module _ (function : ℕ) (behind : length stub.functions ≤ function) where
    none_named : (name : List ℕ) → value_named name client.exports ≡ Some function → value_named name library.exports ≡ None
    none_named name e = by (value_named name library.exports) refl
      where
        by : (o : Option ℕ) → value_named name library.exports ≡ o → value_named name library.exports ≡ None
        by None h = h
        by (Some callee) h = elim (whose name function (stands_at client.exports name function e)) as (λ _. value_named name library.exports ≡ None) [
          | inl ours ↦ let lt = all_get (λ (pair : List ℕ × ℕ). pair.1 < length stub.functions) stub.exports ours.0 (name, function) stub_linked.exports ours.1 in absurd (omega arith)
          | inr of ↦ absurd (not_both name callee of (stands_at library.exports name callee h))
        ]

    pub stays : (functions : List FnIface) → goes_among functions client library function ≡ None
    stays [] = refl
    stays (one ∷ others) = by (value_named one.name client.exports) refl (stays others)
      where
        by : (o : Option ℕ) → value_named one.name client.exports ≡ o → goes_among others client library function ≡ None → goes_among (one ∷ others) client library function ≡ None
        by None e later = ap (λ o. if unwrap_or (option_map (nat_eq function) o) false then value_named one.name library.exports else goes_among others client library function) e ∙ later
        by (Some other) e later =
            ap (λ o. if unwrap_or (option_map (nat_eq function) o) false then value_named one.name library.exports else goes_among others client library function) e
            ∙ same (nat_eq function other) refl
          where
            same : (test : Bool) → nat_eq function other ≡ test → (if test then value_named one.name library.exports else goes_among others client library function) ≡ None
            same true h = none_named one.name (e ∙ ap (λ (f : ℕ). Some f) (sym (exact_unsigned_eq function other h)))
            same false h = later
