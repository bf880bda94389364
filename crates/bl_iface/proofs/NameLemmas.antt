-- Names in maps and sets.
use Rattle.std.proofs.Common.{◌≡◌, ℕ, suc, ◌+◌, ◌<◌, ◌≤◌, ◌||◌, Bool, true, false, List, [], ◌∷◌, ◌++◌, length, take, drop, get_or, Option, Some, None, refl, sym, ap, ◌∙◌, subst, arith, Bor, BTreeMap, BTreeSet}
use Rattle.std.specs.Prelude.{if◌then◌else◌, is_some}
use Rattle.std.specs.BTreeMap as tree
use Rattle.std.specs.BTreeSet as sorted
use Rattle.std.specs.Cmp.{eq_by_cmp_equiv}
use Rattle.std.specs.Cmp.Lexicographic.{slice_cmp}
use Rattle.std.specs.Ordering.{nat_cmp, is_eq}
use Rattle.std.specs.Str.{bytes_eq}
use Rattle.std.proofs.lemmas.Bool.{false≢true}
use Rattle.std.proofs.lemmas.Cmp.{nat_list_cmp_total}
use Rattle.std.proofs.lemmas.List.{take_more}
use Rattle.std.proofs.lemmas.List.Elements.{All-cons, All-head, All-nil, All-tail}
use Rattle.std.proofs.lemmas.List.Folds.{list_any-append}
use Rattle.std.proofs.lemmas.Map.Text.{btree_map_updates_str, is_eq-slice_cmp}
use Rattle.std.proofs.lemmas.Option.{none-some}
use Rattle.std.proofs.lemmas.Slice.Eq.{bytes_eq-Decides}
use Rattle.bl_base.proofs.Lists.{rest_at}
use Rattle.bl_base.proofs.NameSets.{by_bytes}
use Rattle.bl_program.specs.declared.definitions.ExportDef.{ExportDef}
use Rattle.bl_iface.specs.JoinedProgram.{IsNew, exported, is_named}
use Rattle.bl_iface.specs.Names.{AreNames, IsDirectory, at_name}
use Rattle.bl_iface.specs.declared.iface.FnIface.{FnIface}

-- names are equal whichever is named first
pub eq_back : (a b : List ℕ) → bytes_eq a b ≡ bytes_eq b a
eq_back a b = sym (is_eq-slice_cmp a b) ∙ (eq_by_cmp_equiv nat_list_cmp_total).symm a b ∙ is_eq-slice_cmp b a

pub eq_itself : (a : List ℕ) → bytes_eq a a ≡ true
eq_itself a = sym (is_eq-slice_cmp a a) ∙ (eq_by_cmp_equiv nat_list_cmp_total).refl a

-- one more export, in front of those that the map has
pub directory_more : (exports : List ExportDef) (left here : ℕ) (export : ExportDef) (m n : BTreeMap (Bor (List ℕ)) ℕ) (key : Bor (List ℕ)) → left ≤ length exports → left ≡ suc here
    → export ≡ get_or exports here export → key.now ≡ export.name → IsDirectory (drop left exports) m → tree.Updates by_bytes m n key (Some export.function)
    → IsDirectory (drop here exports) n
directory_more exports left here export m n key within next is named so_far updates name =
    let front : drop here exports ≡ export ∷ drop left exports = rest_at exports here export (omega arith) is ∙ ap (λ k. export ∷ drop k exports) (omega arith) in
    let swap : bytes_eq key.now name ≡ bytes_eq name export.name = eq_back key.now name ∙ ap (bytes_eq name) named in
    btree_map_updates_str key.now m n (Some export.function) updates name
    ∙ ap (λ b. if b then Some export.function else at_name m name) swap
    ∙ ap (λ o. if bytes_eq name export.name then Some export.function else o) (so_far name)
    ∙ ap (λ xs. exported xs name) (sym front)

-- no names
pub names_none : (names : BTreeSet (Bor (List ℕ))) → sorted.IsEmpty names → AreNames [] names
names_none names none name = rw none refl

-- one more function of an interface
pub names_push : (functions : List FnIface) (one : FnIface) (m n : BTreeSet (Bor (List ℕ))) (key : Bor (List ℕ)) → key.now ≡ one.name
    → AreNames functions m → sorted.Updates by_bytes m n key true → AreNames (functions ++ one ∷ []) n
names_push functions one m n key named so_far updates name =
    let more : is_named (functions ++ one ∷ []) name.now ≡ (is_named functions name.now || is_named (one ∷ []) name.now) =
    list_any-append (λ (x : FnIface). bytes_eq name.now x.name) functions (one ∷ []) in
    let here : is_eq (slice_cmp nat_cmp key.now name.now) ≡ bytes_eq name.now one.name = is_eq-slice_cmp key.now name.now ∙ eq_back key.now name.now ∙ ap (bytes_eq name.now) named in
    by (bytes_eq name.now one.name) (is_named functions name.now) _ _ (is_eq (slice_cmp nat_cmp key.now name.now)) (updates.0 name) here (so_far name) ∙ sym more
  where
    by : (b c x y e : Bool) → x ≡ (if e then true else y) → e ≡ b → y ≡ c → x ≡ (c || (b || false))
    by true true x y e u h s = u ∙ ap (λ k. if k then true else y) h
    by true false x y e u h s = u ∙ ap (λ k. if k then true else y) h
    by false true x y e u h s = u ∙ ap (λ k. if k then true else y) h ∙ s
    by false false x y e u h s = u ∙ ap (λ k. if k then true else y) h ∙ s

pub names_more : (functions : List FnIface) (i : ℕ) (one : FnIface) (m n : BTreeSet (Bor (List ℕ))) (key : Bor (List ℕ)) → i < length functions → one ≡ get_or functions i one → key.now ≡ one.name
    → AreNames (take i functions) m → sorted.Updates by_bytes m n key true → AreNames (take (i + 1) functions) n
names_more functions i one m n key lt is named so_far updates =
    let front : take (i + 1) functions ≡ take i functions ++ one ∷ [] = take_more functions i one lt ∙ ap (λ (x : FnIface). take i functions ++ x ∷ []) (sym is) in
    subst (λ xs. AreNames xs n) (sym front) (names_push (take i functions) one m n key named so_far updates)

-- ---- a name that is taken

pub new_name : (exports : List ExportDef) (one : ExportDef) → exported exports one.name ≡ None → IsNew exports one
new_name [] one none = All-nil (λ (e : ExportDef). e.name ≡ one.name → ⊥)
new_name (export ∷ exports) one none = by (bytes_eq one.name export.name) refl none (new_name exports one)
  where
    by : (b : Bool) → bytes_eq one.name export.name ≡ b → (if b then Some export.function else exported exports one.name) ≡ None → (exported exports one.name ≡ None → IsNew exports one)
        → IsNew (export ∷ exports) one
    by true e none rest = absurd (none-some export.function (sym none))
    by false e none rest =
        All-cons (λ (e : ExportDef). e.name ≡ one.name → ⊥) export exports (λ same. false≢true (sym e ∙ ap (bytes_eq one.name) same ∙ eq_itself one.name)) (rest none)

pub taken_name : (exports : List ExportDef) (one : ExportDef) (f : ℕ) → exported exports one.name ≡ Some f → IsNew exports one → ⊥
taken_name [] one f is new = none-some f is
taken_name (export ∷ exports) one f is new = by (bytes_eq one.name export.name) refl is (taken_name exports one f)
  where
    by : (b : Bool) → bytes_eq one.name export.name ≡ b → (if b then Some export.function else exported exports one.name) ≡ Some f
        → (exported exports one.name ≡ Some f → IsNew exports one → ⊥) → ⊥
    by true e is rest = All-head (λ (e : ExportDef). e.name ≡ one.name → ⊥) export exports new (sym ((bytes_eq-Decides one.name export.name).0 e))
    by false e is rest = rest is (All-tail (λ (e : ExportDef). e.name ≡ one.name → ⊥) export exports new)

pub taken_some : (exports : List ExportDef) (one : ExportDef) → is_some (exported exports one.name) ≡ true → IsNew exports one → ⊥
taken_some exports one some = by (exported exports one.name) refl some
  where
    by : (o : Option ℕ) → exported exports one.name ≡ o → is_some o ≡ true → IsNew exports one → ⊥
    by None e some = absurd (false≢true some)
    by (Some f) e some = taken_name exports one f e

pub new_none : (exports : List ExportDef) (one : ExportDef) → is_some (exported exports one.name) ≡ false → IsNew exports one
new_none exports one none = by (exported exports one.name) refl none
  where
    by : (o : Option ℕ) → exported exports one.name ≡ o → is_some o ≡ false → IsNew exports one
    by None e none = new_name exports one e
    by (Some f) e none = absurd (false≢true (sym none))
