-- A look-up by a name in the tree goes through the exports of all parts.
use Rattle.std.proofs.Common.{◌≡◌, ◌≢◌, Bor, ◌∙◌, refl, sym, ap, ℕ, ◌+◌, ◌<◌, true, false, cond, List, [], ◌∷◌, ◌++◌, length, map, drop, get_or, Option, Some, None, slice_get, arith}
use Rattle.std.specs.Prelude.{option_map, MatchOption}
use Rattle.std.specs.Bool.{Decides}
use Rattle.std.specs.Option.{option_or}
use Rattle.std.specs.Str.{bytes_eq}
use Rattle.std.proofs.lemmas.Bool.{false_from_ne_true, false≢true}
use Rattle.std.proofs.lemmas.List.{append_cancel_left, drop_more}
use Rattle.std.proofs.lemmas.Option.{slice_get-map}
use Rattle.std.proofs.lemmas.Slice.Eq.{bytes_eq-Decides}
use Rattle.bl_wasm.specs.Exports.{value_named}
use Rattle.bl_wasm.specs.declared.module.Export.{Export}
use Rattle.bl_wasm.proofs.NamedLemmas.{value_append}
use Rattle.bl_link.specs.AllNames.{behind, of_part, of_parts}
use Rattle.bl_link.specs.Links.{exported}
use Rattle.bl_link.specs.ExportNames.{Values, qualified}
use Rattle.bl_link.specs.OwnNames.{own}
use Rattle.bl_link.specs.IndexSpaces.{External, Spaces}
use Rattle.bl_link.specs.Stores.{AreApart}
use Rattle.bl_link.specs.declared.all_names.PartNames.{PartNames}
use Rattle.bl_link.proofs.NameLemmas.{behind_solidus}
use Rattle.bl_link.proofs.NumberedLists.{get_right}

-- ---- one part

-- what stands behind a part's name and a solidus
pub own_of : (part name rest : List ℕ) → name ≡ part ++ rest → (r : Option (Bor (List ℕ))) → MatchOption r ((own : List ℕ) → rest ≢ (0x2F ∷ []) ++ own) (λ x. rest ≡ (0x2F ∷ []) ++ x.now)
    → MatchOption r ((own : List ℕ) → name ≡ qualified part own → ⊥) (λ own. name ≡ qualified part own.now)
own_of part name rest first None m = λ own e. m own (append_cancel_left part rest (0x2F ∷ own) (sym first ∙ e))
own_of part name rest first (Some x) m = first ∙ ap (λ l. part ++ l) m

same_bytes : (part a b : List ℕ) → bytes_eq (qualified part a) (qualified part b) ≡ bytes_eq a b
same_bytes part a b =
    elim (bytes_eq a b) as (λ t. Decides t (a ≡ b) → bytes_eq (qualified part a) (qualified part b) ≡ t) [
      | true ↦ λ d. (bytes_eq-Decides (qualified part a) (qualified part b)).1 (ap (λ n. qualified part n) (d.0 refl))
      | false ↦ λ d. false_from_ne_true (bytes_eq (qualified part a) (qualified part b)) (λ e. false≢true (d.1 (behind_solidus part a b ((bytes_eq-Decides (qualified part a) (qualified part b)).0 e))))
    ] (bytes_eq-Decides a b)

-- a name of the part is found as its own name is
pub own_named : (part these : List ℕ) (xs : Values) → value_named (qualified part these) (map (behind part) xs) ≡ value_named these xs
own_named part these [] = refl
own_named part these (x ∷ xs) =
    ap (λ b. cond b (Some x.1) (value_named (qualified part these) (map (behind part) xs))) (same_bytes part these x.0) ∙ ap (cond (bytes_eq these x.0) (Some x.1)) (own_named part these xs)

-- and no other
pub other_named : (part name : List ℕ) (xs : Values) → ((these : List ℕ) → name ≡ qualified part these → ⊥) → value_named name (map (behind part) xs) ≡ None
other_named part name [] other = refl
other_named part name (x ∷ xs) other =
    let no : bytes_eq name (qualified part x.0) ≡ false = false_from_ne_true (bytes_eq name (qualified part x.0)) (λ e. other x.0 ((bytes_eq-Decides name (qualified part x.0)).0 e)) in
    ap (λ b. cond b (Some x.1) (value_named name (map (behind part) xs))) no ∙ other_named part name xs other

-- ---- all parts

-- what is found first hides the rest
pub or_other : (found later : Option External) → ((value : External) → found ≡ Some value → ⊥) → option_or found later ≡ later
or_other None later none = refl
or_other (Some value) later none = absurd (none value refl)

-- what is found from a part on is found in that part, or else behind it
pub found_from : (name : List ℕ) (parts : List PartNames) (i : ℕ) (part : PartNames) → i < length parts → part ≡ get_or parts i part
    → value_named name (of_parts (drop i parts)) ≡ option_or (value_named name (of_part part)) (value_named name (of_parts (drop (i + 1) parts)))
found_from name parts i part below is =
    ap (λ l. value_named name (of_parts l)) (drop_more parts i part below)
    ∙ ap (λ (p : PartNames). value_named name (of_part p ++ of_parts (drop (i + 1) parts))) (sym is)
    ∙ value_append name (of_part part) (of_parts (drop (i + 1) parts))

-- ---- entries

pub exported_all : (part : List ℕ) (spaces : Spaces) (entries : List Export) → map (behind part) (map (own spaces) entries) ≡ map (exported part spaces) entries
exported_all part spaces [] = refl
exported_all part spaces (entry ∷ entries) = ap (λ l. exported part spaces entry ∷ l) (exported_all part spaces entries)

-- entries whose names in the tree are apart have own names that are
pub entries_apart : (part : List ℕ) (spaces : Spaces) (before : Values) (entries : List Export) → AreApart (λ (value : List ℕ × External). value.0) (before ++ map (exported part spaces) entries) → AreApart (λ (entry : Export). entry.name) entries
entries_apart part spaces before entries apart i j a b first second same =
    let at_i : slice_get (before ++ map (exported part spaces) entries) (length before + i) ≡ Some (exported part spaces a) =
    get_right before (map (exported part spaces) entries) i ∙ slice_get-map (exported part spaces) entries i ∙ ap (option_map (exported part spaces)) first in
    let at_j : slice_get (before ++ map (exported part spaces) entries) (length before + j) ≡ Some (exported part spaces b) =
    get_right before (map (exported part spaces) entries) j ∙ slice_get-map (exported part spaces) entries j ∙ ap (option_map (exported part spaces)) second in
    let e : length before + i ≡ length before + j = apart (length before + i) (length before + j) (exported part spaces a) (exported part spaces b) at_i at_j (ap (λ n. qualified part n) same) in
    omega (arith, e)
