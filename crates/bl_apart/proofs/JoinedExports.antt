-- What is exported of the whole tree is exported of the joined one.
use Rattle.std.proofs.Common.{◌≡◌, ◌∙◌, refl, sym, ap, ap₂, subst, ℕ, zero, suc, ◌+◌, ◌<◌, ◌≤◌, List, [], ◌∷◌, ◌++◌, length, map, filter_map, Bool, true, false, ◌||◌, Option, Some, None, slice_get, inl, inr, arith}
use Rattle.std.specs.Prelude.{if◌then◌else◌, not, option_map, unwrap_or, fold, Ok}
use Rattle.std.specs.List.{All, AllZip, cons_option, enumerate_from, filter}
use Rattle.std.specs.Str.{bytes_eq}
use Rattle.std.proofs.lemmas.List.Elements.{All-head, All-tail, filter_map-append}
use Rattle.std.proofs.lemmas.Bool.{not-true}
use Rattle.std.proofs.lemmas.Option.{same_Some, slice_get_within}
use Rattle.std.proofs.lemmas.Slice.Eq.{bytes_eq-Decides}
use Rattle.bl_base.proofs.Lists.{all_get, get_mapped, mapped_get, zip_get, zip_got}
use Rattle.bl_wasm.specs.Exports.{Pairs}
use Rattle.bl_wasm.specs.declared.module.ExportKind.TheVariants as export
use Rattle.bl_wasm.specs.declared.linked.Tree.{Tree}
use Rattle.bl_apart.specs.LinkedTypes.{External, Store}
use Rattle.bl_link.specs.Links.{nothing, of_function, pair, with_next}
use Rattle.bl_link.specs.Stores.{OfPart}
use Rattle.bl_link.specs.ExportNames.{Values}
use Rattle.bl_link.specs.declared.part.Part.{Part}
use Rattle.bl_link.proofs.NameLemmas.{came}
use Rattle.bl_program.proofs.AppendLemmas.{get_left, get_right}
use Rattle.bl_iface.specs.JoinedProgram.{is_named}
use Rattle.bl_iface.specs.declared.iface.FnIface.{FnIface}
use Rattle.bl_iface.specs.declared.iface.Iface.{Iface}
use Rattle.bl_whole.specs.JoinedTree.{joined_tree, kept_in}
use Rattle.bl_apart.specs.BesideStores.{AreGiven, EntryAlike, Exports, NumberAlike, Setting}
use Rattle.bl_apart.specs.LinkedApart.{AreLinked, AreUsers, HasOrigin, IsExported, IsOwn, setting, whole_numbers}
use Rattle.bl_apart.proofs.BesideLinks.{AreLinkedBeside, stores_beside}
use Rattle.bl_apart.proofs.BesideOffers.{ArePairs, pair_is, pairs_all}
use Rattle.bl_apart.proofs.JoinedLinks.{agree, given}
use Rattle.bl_apart.proofs.UserExports.{append_cases, client_linked, client_named, library_linked, not_both, stays}
use Rattle.bl_apart.proofs.WholeNumbers.{Where, in_library, in_users, low, where_is}

-- ---- lists

filtered_at : {A : Type 0} (test : A → Bool) (xs : List A) (i : ℕ) (x : A) → slice_get xs i ≡ Some x → test x ≡ true → (j : ℕ) × (slice_get (filter test xs) j ≡ Some x)
filtered_at test [] i x e h = absurd (cc e)
filtered_at {A} test (y ∷ xs) zero x e h =
    let same : y ≡ x = cc in
    (0, ap (λ (b : Bool). slice_get (if b then y ∷ filter test xs else filter test xs) 0) (ap test same ∙ h) ∙ e)
filtered_at {A} test (y ∷ xs) (suc i) x e h = by (test y) refl (filtered_at test xs i x e h)
  where
    by : (b : Bool) → test y ≡ b → (j : ℕ) × (slice_get (filter test xs) j ≡ Some x) → (j : ℕ) × (slice_get (filter test (y ∷ xs)) j ≡ Some x)
    by true k rest = (suc rest.0, ap (λ (b : Bool). slice_get (if b then y ∷ filter test xs else filter test xs) (suc rest.0)) k ∙ rest.1)
    by false k rest = (rest.0, ap (λ (b : Bool). slice_get (if b then y ∷ filter test xs else filter test xs) rest.0) k ∙ rest.1)

filtered_from : {A : Type 0} (test : A → Bool) (xs : List A) (i : ℕ) (x : A) → slice_get (filter test xs) i ≡ Some x → (j : ℕ) × (slice_get xs j ≡ Some x) × (test x ≡ true)
filtered_from test [] i x e = absurd (cc e)
filtered_from {A} test (y ∷ xs) i x e = by (test y) refl (λ k f. filtered_from test xs k x f)
  where
    by : (b : Bool) → test y ≡ b → ((k : ℕ) → slice_get (filter test xs) k ≡ Some x → (j : ℕ) × (slice_get xs j ≡ Some x) × (test x ≡ true))
        → (j : ℕ) × (slice_get (y ∷ xs) j ≡ Some x) × (test x ≡ true)
    by true k rest = front i (sym (ap (λ (b : Bool). slice_get (if b then y ∷ filter test xs else filter test xs) i) k) ∙ e)
      where
        front : (i : ℕ) → slice_get (y ∷ filter test xs) i ≡ Some x → (j : ℕ) × (slice_get (y ∷ xs) j ≡ Some x) × (test x ≡ true)
        front zero e = (0, e, sym (ap test (same_Some y x e)) ∙ k)
        front (suc i) e = let later = rest i e in (suc later.0, later.1, later.2)
    by false k rest = let later = rest i (sym (ap (λ (b : Bool). slice_get (if b then y ∷ filter test xs else filter test xs) i) k) ∙ e) in (suc later.0, later.1, later.2)

chosen_at : {A B : Type 0} (h : A → Option B) (xs : List A) (i : ℕ) (x : A) (b : B) → slice_get xs i ≡ Some x → h x ≡ Some b → (j : ℕ) × (slice_get (filter_map h xs) j ≡ Some b)
chosen_at h [] i x b e k = absurd (cc e)
chosen_at h (y ∷ xs) zero x b e k =
    let same : y ≡ x = cc in
    (0, ap (λ o. slice_get (cons_option o (filter_map h xs)) 0) (ap h same ∙ k))
chosen_at h (y ∷ xs) (suc i) x b e k = by (h y) refl (chosen_at h xs i x b e k)
  where
    by : (o : Option _) → h y ≡ o → (j : ℕ) × (slice_get (filter_map h xs) j ≡ Some b) → (j : ℕ) × (slice_get (filter_map h (y ∷ xs)) j ≡ Some b)
    by None f rest = (rest.0, ap (λ o. slice_get (cons_option o (filter_map h xs)) rest.0) f ∙ rest.1)
    by (Some c) f rest = (suc rest.0, ap (λ o. slice_get (cons_option o (filter_map h xs)) (suc rest.0)) f ∙ rest.1)

unnamed : (library : Tree) (name : List ℕ) → ((function : ℕ) → Exports library name function → ⊥) → (functions : List FnIface) → All (IsExported library) functions → is_named functions name ≡ false
unnamed library name none [] all = refl
unnamed library name none (one ∷ others) all = by (bytes_eq name one.name) refl (unnamed library name none others (All-tail (IsExported library) one others all))
  where
    by : (test : Bool) → bytes_eq name one.name ≡ test → is_named others name ≡ false → is_named (one ∷ others) name ≡ false
    by true h later =
        let there = All-head (IsExported library) one others all in
        absurd (none there.0 (subst (λ n. Exports library n there.0) (sym ((bytes_eq-Decides name one.name).0 h)) there.1))
    by false h later = ap (λ test. test || is_named others name) h ∙ later

-- ---- exports of what is linked behind others

-- the functions among what is exported behind others
behind_others : (first last more : Values) (before after : Pairs) → before ≡ filter_map pair first → after ≡ filter_map pair last → last ≡ first ++ more → after ≡ before ++ filter_map pair more
behind_others first last more before after b a e = a ∙ ap (filter_map pair) e ∙ filter_map-append pair first more ∙ ap (λ (l : Pairs). l ++ filter_map pair more) (sym b)

-- a function that users export, in the client and in the whole tree
record IsUsers (s : Setting) (client whole : Tree) (place : ℕ) (name : List ℕ) (function : ℕ) : Type 0 where
  mine : ℕ
  at_ : ℕ
  here : slice_get client.exports (length s.stub.exports + at_) ≡ Some (name, mine)
  alike : s.ours.names.function mine ≡ s.theirs.names.function function

module _ (s : Setting) (ours theirs : Values) (client whole : Tree) (client_is : client.exports ≡ s.stub.exports ++ filter_map pair ours)
    (alike : AllZip (EntryAlike s) ours theirs) where
  users_export : (j : ℕ) (name : List ℕ) (function : ℕ) → slice_get (filter_map pair theirs) j ≡ Some (name, function) → IsUsers s client whole j name function
  users_export j name function e =
      let c = came pair theirs j (name, function) e in
      let there = pair_is c.source.1.kind (c.source.0, c.source.1.number) (name, function) c.gave in
      let u = zip_got (EntryAlike s) ours theirs c.place c.source alike c.found in
      let own : List ℕ × External = u.0 in
      let kind : own.1.kind ≡ export.Function = u.2.1.kind ∙ there.0 in
      let named : own.0 ≡ name = u.2.0 ∙ ap (λ (p : List ℕ × ℕ). p.0) there.1 in
      let same : NumberAlike s export.Function own.1.number c.source.1.number = subst (λ k. NumberAlike s k own.1.number c.source.1.number) kind u.2.1.number in
      let here = chosen_at pair ours c.place own (name, own.1.number) u.1 (ap₂ (λ k (n : List ℕ). of_function k (n, own.1.number)) kind named) in
      record {
        mine = own.1.number;
        at_ = here.0;
        here = ap (λ (l : Pairs). slice_get l (length s.stub.exports + here.0)) client_is
            ∙ get_right s.stub.exports (filter_map pair ours) (length s.stub.exports + here.0) here.0 refl ∙ here.1;
        alike = same ∙ ap (λ (p : List ℕ × ℕ). s.theirs.names.function p.1) there.1;
      }

-- a function that users export in the client they export in the whole tree too
module _ (s : Setting) (ours theirs : Values) (library whole : Tree) (whole_is : whole.exports ≡ library.exports ++ filter_map pair theirs) (alike : AllZip (EntryAlike s) ours theirs) where
  users_keep : (j : ℕ) (name : List ℕ) (function : ℕ) → slice_get (filter_map pair ours) j ≡ Some (name, function) → (other : ℕ) × Exports whole name other
  users_keep j name function e =
      let c = came pair ours j (name, function) e in
      let here = pair_is c.source.1.kind (c.source.0, c.source.1.number) (name, function) c.gave in
      let u = zip_get (EntryAlike s) ours theirs c.place c.source alike c.found in
      let its : List ℕ × External = u.0 in
      let kind : its.1.kind ≡ export.Function = sym u.2.1.kind ∙ here.0 in
      let named : its.0 ≡ name = sym u.2.0 ∙ ap (λ (p : List ℕ × ℕ). p.0) here.1 in
      let there = chosen_at pair theirs c.place its (name, its.1.number) u.1 (ap₂ (λ k (n : List ℕ). of_function k (n, its.1.number)) kind named) in (
        its.1.number,
        (
          length library.exports + there.0,
          ap (λ (l : Pairs). slice_get l (length library.exports + there.0)) whole_is
              ∙ get_right library.exports (filter_map pair theirs) (length library.exports + there.0) there.0 refl ∙ there.1,
        ),
      )

module _ (iface : Iface) (stubs libraries users : List Part) (stub library client whole : Tree) (are : AreLinked stubs libraries users stub library client whole)
    (joins : AreUsers iface stub client library users) where
  abbrev s : Setting
  s = setting iface stub client library

  abbrev moved : List ℕ × ℕ → List ℕ × ℕ
  moved pair = (pair.0, length client.functions + pair.1)

  beside : AreLinkedBeside s stubs libraries users (given iface stubs libraries users stub library client whole are joins) client whole
  beside = stores_beside s (agree iface stubs libraries users stub library client whole are joins) stubs libraries users client whole are.users_sound
      (given iface stubs libraries users stub library client whole are joins) are.client_is are.whole_is

  -- the functions among the exports of what users are linked behind, and of the whole
  tails : (parts : List Part) (n : ℕ) (first last : Store) (more : Values) (before after : Tree) → fold with_next (Ok nothing) (enumerate_from 0 parts) ≡ Ok first
      → fold with_next (Ok first) (enumerate_from n users) ≡ Ok last → before ≡ first.tree → last.tree ≡ after → last.exports ≡ first.exports ++ more
      → after.exports ≡ before.exports ++ filter_map pair more
  tails parts n first last more before after e f b a g =
      let one : ArePairs first = pairs_all parts 0 nothing first refl e in
      behind_others first.exports last.exports more before.exports after.exports (ap (λ (t : Tree). t.exports) b ∙ one) (ap (λ (t : Tree). t.exports) (sym a) ∙ pairs_all users n first last one f) g

  abbrev g : AreGiven s stubs libraries users
  g = given iface stubs libraries users stub library client whole are joins

  here_is : client.exports ≡ stub.exports ++ filter_map pair beside.stores.exports.ours
  here_is = tails stubs (0 + length stubs) g.one beside.ours.last beside.stores.exports.ours stub client g.one_is beside.ours.run g.one_tree beside.ours.same beside.stores.exports.here_is

  there_is : whole.exports ≡ library.exports ++ filter_map pair beside.stores.exports.theirs
  there_is = tails libraries (0 + length libraries) g.other beside.theirs.last beside.stores.exports.theirs library whole g.other_is beside.theirs.run g.other_tree beside.theirs.same beside.stores.exports.there_is

  module _ (name : List ℕ) (number : ℕ) where
    -- a library's export is the whole tree's
    origin_there : (j : ℕ) → slice_get (map moved library.exports) j ≡ Some (name, number) → HasOrigin iface stub whole name number
    origin_there j e =
        let m = mapped_get moved library.exports j (name, number) e in
        let its : List ℕ × ℕ = m.0 in
        let same : slice_get library.exports j ≡ Some (name, its.1) = m.1 ∙ ap (λ (n : List ℕ). Some (n, its.1)) (ap (λ (p : List ℕ × ℕ). p.0) m.2) in
        let stands = ap (λ (l : Pairs). slice_get l j) there_is ∙ get_left library.exports (filter_map pair beside.stores.exports.theirs) j (slice_get_within library.exports j (name, its.1) same) ∙ same in
        inl (its.1, (j, stands))

    -- a client's that is kept is the stub's, or users' and so the whole tree's
    origin_here : (i : ℕ) → slice_get client.exports i ≡ Some (name, number) → not (is_named iface.functions name) ≡ true → HasOrigin iface stub whole name number
    origin_here i e kept = elim (append_cases stub.exports (filter_map pair beside.stores.exports.ours) i (name, number) (ap (λ (l : Pairs). slice_get l i) (sym here_is) ∙ e)) [
      | inl h ↦ inr ((i, h), not-true (is_named iface.functions name) kept)
      | inr h ↦ inl (users_keep s beside.stores.exports.ours beside.stores.exports.theirs library whole there_is beside.stores.exports.alike h.0 name number h.2)
    ]

    pub has_origin : Exports (joined_tree client library iface) name number → HasOrigin iface stub whole name number
    has_origin there = elim (append_cases (kept_in iface client.exports) (map moved library.exports) there.0 (name, number) there.1) [
      | inl h ↦
          let from = filtered_from (λ (pair : List ℕ × ℕ). not (is_named iface.functions pair.0)) client.exports there.0 (name, number) h in
          origin_here from.0 from.1 from.2
      | inr h ↦ origin_there h.0 h.2
    ]

  module _ (name : List ℕ) (function : ℕ) (exported : All (IsExported library) iface.functions) (own : IsOwn stub client name) where
    -- the library's exports stay
    of_library : (i : ℕ) → slice_get library.exports i ≡ Some (name, function) → Exports (joined_tree client library iface) name ((whole_numbers stub client library).names.function function)
    of_library i e =
        let linked = library_linked stubs libraries users stub library client whole are in
        let within = all_get (λ (pair : List ℕ × ℕ). pair.1 < length library.functions) library.exports i (name, function) linked.exports e in
        let kept = kept_in iface client.exports in (
          length kept + i,
          get_right kept (map moved library.exports) (length kept + i) i refl ∙ get_mapped moved library.exports i (name, function) e
              ∙ ap (λ (f : ℕ). Some (name, f)) (sym (low (length library.functions) (length client.functions) (length stub.functions) function within)),
        )

    -- those of users that aren't the stub's are kept, under the same numbers
    of_users : (j : ℕ) → IsUsers s client whole j name function → Exports (joined_tree client library iface) name ((whole_numbers stub client library).names.function function)
    of_users j is =
        let named = client_named stubs libraries users stub library client whole are in
        let of = all_get (OfPart users) named.more is.at_ (name, is.mine) named.named
        (sym (ap (λ (l : Pairs). slice_get l (length stub.exports + is.at_)) named.behind ∙ get_right stub.exports named.more (length stub.exports + is.at_) is.at_ refl) ∙ is.here) in
        let test : not (is_named iface.functions name) ≡ true =
        ap not (unnamed library name (λ g there. not_both stubs libraries users stub library client whole are name g of there) iface.functions exported) in
        let kept = filtered_at (λ pair. not (is_named iface.functions pair.0)) client.exports (length stub.exports + is.at_) (name, is.mine) is.here test in
        let within = slice_get_within (kept_in iface client.exports) kept.0 (name, is.mine) kept.1 in (
          kept.0,
          get_left (kept_in iface client.exports) (map moved library.exports) kept.0 within ∙ kept.1
              ∙ ap (λ (f : ℕ). Some (name, f)) (sym (ap (λ o. unwrap_or (option_map (λ g. length client.functions + g) o) is.mine)
              (stays stubs libraries users stub library client whole are is.mine (theirs_alone (where_is (length stub.functions) is.mine)) iface.functions)) ∙ is.alike),
        )
      where
        theirs_alone : Where (length stub.functions) is.mine → length stub.functions ≤ is.mine
        theirs_alone (in_users j e) = omega arith
        theirs_alone (in_library lt) =
            let linked = client_linked stubs libraries users stub library client whole are in
            let there = own is.mine (length stub.exports + is.at_, is.here) lt in
            let within = slice_get_within stub.exports there.0 (name, is.mine) there.1 in
            let named = client_named stubs libraries users stub library client whole are in
            let again : slice_get client.exports there.0 ≡ Some (name, is.mine) =
            ap (λ (l : Pairs). slice_get l there.0) named.behind ∙ get_left stub.exports named.more there.0 within ∙ there.1 in
            let clash = linked.distinct there.0 (length stub.exports + is.at_) (name, is.mine) (name, is.mine) again is.here refl in
            absurd (omega arith)

    pub export_kept : Exports whole name function → Exports (joined_tree client library iface) name ((whole_numbers stub client library).names.function function)
    export_kept there = elim (append_cases library.exports (filter_map pair beside.stores.exports.theirs) there.0 (name, function) (ap (λ (l : Pairs). slice_get l there.0) (sym there_is) ∙ there.1)) [
      | inl h ↦ of_library there.0 h
      | inr h ↦ of_users h.0 (users_export s beside.stores.exports.ours beside.stores.exports.theirs client whole here_is beside.stores.exports.alike h.0 name function h.2)
    ]
