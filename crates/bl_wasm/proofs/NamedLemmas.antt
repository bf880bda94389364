-- Names among the entries of a map, as they are among its pairs, and values by names.
use Rattle.std.proofs.Common.{◌≡◌, ◌∙◌, refl, sym, ap, subst, ℕ, zero, suc, Bool, true, false, cond, List, [], ◌∷◌, ◌++◌, Option, Some, None, slice_get, arith}
use Rattle.std.specs.Prelude.{Vec, if◌then◌else◌}
use Rattle.std.specs.Map.{lookup}
use Rattle.std.specs.Option.{option_or}
use Rattle.std.specs.Str.{bytes_eq}
use Rattle.std.specs.declared.alloc.Global.{Global}
use Rattle.std.proofs.lemmas.List.{map-append}
use Rattle.std.proofs.lemmas.Option.{none-some, same_Some}
use Rattle.std.proofs.lemmas.Slice.Eq.{bytes_eq-Decides}
use Rattle.indexmap.specs.IndexMap.{IndexMap, insert_entry}
use Rattle.indexmap.proofs.CallerLemmas.{insert_entry-new}
use Rattle.bl_wasm.specs.Exports.{AreDistinct, PairsOf, pairs_of, value_named}

-- ---- entries of a map

-- names are equal by their bytes
abbrev same_name : Vec ℕ Global → Vec ℕ Global → Bool
same_name a b = bytes_eq a.items b.items

-- a name is found among the pairs as it is among the entries
pub value-pairs : {T : Type 0} (name : List ℕ) (entries : List (Vec ℕ Global × T)) → value_named name (pairs_of entries) ≡ lookup (λ key. bytes_eq name key.items) entries
value-pairs name [] = refl
value-pairs name (entry ∷ entries) = ap (cond (bytes_eq name entry.0.items) (Some entry.1)) (value-pairs name entries)

-- a new name goes last
pub pairs-insert : {T S : Type 0} (old new : IndexMap (Vec ℕ Global) T S) (name : Vec ℕ Global) (value : T) (pairs : PairsOf T) → pairs_of old.entries ≡ pairs
    → value_named name.items pairs ≡ None → new.entries ≡ insert_entry same_name old.entries name value → pairs_of new.entries ≡ pairs ++ (name.items, value) ∷ []
pairs-insert old new name value pairs view none added =
    let absent = sym (value-pairs name.items old.entries) ∙ (ap (value_named name.items) view ∙ none) in
    ap pairs_of (added ∙ insert_entry-new same_name old name value absent) ∙ (map-append _ old.entries ((name, value) ∷ []) ∙ ap (λ front. front ++ (name.items, value) ∷ []) view)

pub ruleset named_rules = (value-pairs)

-- ---- pairs

-- a name's value is that of one of the pairs
pub stands_at : {T : Type 0} (pairs : PairsOf T) (name : List ℕ) (value : T) → value_named name pairs ≡ Some value → (i : ℕ) × (slice_get pairs i ≡ Some (name, value))
stands_at [] name value e = absurd (none-some value e)
stands_at {T = T} (pair ∷ pairs) name value e = by (bytes_eq name pair.0) refl e (stands_at pairs name value)
  where
    by : (test : Bool) → bytes_eq name pair.0 ≡ test → (if test then Some pair.1 else value_named name pairs) ≡ Some value
        → (value_named name pairs ≡ Some value → (i : ℕ) × (slice_get pairs i ≡ Some (name, value))) → (i : ℕ) × (slice_get (pair ∷ pairs) i ≡ Some (name, value))
    by true h e later =
        (0, subst (λ (n : List ℕ). Some pair ≡ Some (n, value)) (sym ((bytes_eq-Decides name pair.0).0 h)) (ap (λ (v : T). Some (pair.0, v)) (same_Some pair.1 value e)))
    by false h e later = let rest = later e in (suc rest.0, rest.1)

-- where no pair has a name there is no value
pub value_none : {T : Type 0} (name : List ℕ) (pairs : PairsOf T) → ((i : ℕ) (pair : List ℕ × T) → slice_get pairs i ≡ Some pair → pair.0 ≡ name → ⊥) → value_named name pairs ≡ None
value_none {T = T} name pairs absent = by (value_named name pairs) refl
  where
    by : (found : Option T) → value_named name pairs ≡ found → found ≡ None
    by None e = refl
    by (Some value) e = let there = stands_at pairs name value e in absurd (absent there.0 (name, value) there.1 refl)

-- where names are distinct each pair is the one of its name
pub value_found : {T : Type 0} (pairs : PairsOf T) (i : ℕ) (pair : List ℕ × T) → AreDistinct pairs → slice_get pairs i ≡ Some pair → value_named pair.0 pairs ≡ Some pair.1
value_found [] i pair distinct e = absurd (none-some pair e)
value_found {T = T} (first ∷ pairs) zero pair distinct e =
    subst (λ (p : List ℕ × T). (if bytes_eq pair.0 p.0 then Some p.1 else value_named pair.0 pairs) ≡ Some pair.1) (sym (same_Some first pair e))
    (ap (λ test. if test then Some pair.1 else value_named pair.0 pairs) ((bytes_eq-Decides pair.0 pair.0).1 refl))
value_found (first ∷ pairs) (suc i) pair distinct e =
    by (bytes_eq pair.0 first.0) refl (value_found pairs i pair (λ k l a b x y same. let h = distinct (suc k) (suc l) a b x y same in omega (arith, h)) e)
  where
    by : (test : Bool) → bytes_eq pair.0 first.0 ≡ test → value_named pair.0 pairs ≡ Some pair.1 → (if test then Some first.1 else value_named pair.0 pairs) ≡ Some pair.1
    by true h later = let clash = distinct zero (suc i) first pair refl e (sym ((bytes_eq-Decides pair.0 first.0).0 h)) in absurd (omega (arith, clash))
    by false h later = later

-- a name is looked for in the pairs in front, then behind
pub value_append : {T : Type 0} (name : List ℕ) (xs ys : PairsOf T) → value_named name (xs ++ ys) ≡ option_or (value_named name xs) (value_named name ys)
value_append name [] ys = refl
value_append name (x ∷ xs) ys =
    elim (bytes_eq name x.0) as (λ b. cond b (Some x.1) (value_named name (xs ++ ys)) ≡ option_or (cond b (Some x.1) (value_named name xs)) (value_named name ys)) [
      | true ↦ refl
      | false ↦ value_append name xs ys
    ]
