-- Names that are added one after another.
use Rattle.std.proofs.Common.{◌≡◌, ◌∙◌, refl, sym, ap, subst, ℕ, ◌+◌, ◌<◌, List, [], ◌∷◌, ◌++◌, length, get_or, drop, map, Option, Some, None, slice_get, filter_map, arith, append_assoc}
use Rattle.std.specs.List.{cons_option}
use Rattle.std.proofs.lemmas.List.{drop_more}
use Rattle.std.proofs.lemmas.Option.{slice_get_within}
use Rattle.bl_wasm.specs.Exports.{AreDistinct, Pairs, value_named}
use Rattle.bl_wasm.specs.declared.module.Export.{Export}
use Rattle.bl_wasm.specs.declared.module.ExportKind.TheVariants as export
use Rattle.bl_wasm.proofs.NamedLemmas.{value_none}
use Rattle.bl_link.specs.Links.{exported, pair}
use Rattle.bl_link.specs.ExportNames.{Values, qualified}
use Rattle.bl_link.specs.OwnNames.{own}
use Rattle.bl_link.specs.IndexSpaces.{External, Spaces, number, space}
use Rattle.bl_link.specs.Stores.{AreApart}
use Rattle.bl_link.proofs.NameLemmas.{apart_map}
use Rattle.bl_link.proofs.NumberedLists.{get_left, get_right}

-- the name of an element isn't that of one before it
not_before : {A : Type 0} (name : A → List ℕ) (before : List A) (x : A) (later : List A) → AreApart name (before ++ x ∷ later)
    → (i : ℕ) (other : A) → slice_get before i ≡ Some other → name other ≡ name x → ⊥
not_before name before x later apart i other found same =
    let clash : i ≡ length before + 0 = apart i (length before + 0) other x (get_left before (x ∷ later) i other found) (get_right before (x ∷ later) 0) same in
    omega (arith, clash, slice_get_within before i other found)

-- ---- values

-- what is left begins with the entry
split_at : {A : Type 0} (f : Export → A) (entries : List Export) (i : ℕ) (entry : Export) → i < length entries → entry ≡ get_or entries i entry → map f (drop i entries) ≡ f entry ∷ map f (drop (i + 1) entries)
split_at f entries i entry below is = ap (map f) (drop_more entries i entry below) ∙ ap (λ e. f e ∷ map f (drop (i + 1) entries)) (sym is)

pub value_is_new : (spaces : Spaces) (entries : List Export) (i : ℕ) (entry : Export) (now : Values) (these : List ℕ) → i < length entries → entry ≡ get_or entries i entry
    → now ++ map (own spaces) (drop i entries) ≡ map (own spaces) entries
    → AreApart (λ (entry : Export). entry.name) entries → these ≡ entry.name → value_named these now ≡ None
value_is_new spaces entries i entry now these below is so_far apart named =
    let split : now ++ own spaces entry ∷ map (own spaces) (drop (i + 1) entries) ≡ map (own spaces) entries =
    ap (λ l. now ++ l) (sym (split_at (own spaces) entries i entry below is)) ∙ so_far in
    let all : AreApart (λ (value : List ℕ × External). value.0) (map (own spaces) entries) =
    apart_map (λ (entry : Export). entry.name) (λ (value : List ℕ × External). value.0) (own spaces) entries (λ x y e. e) apart in
    let none : value_named entry.name now ≡ None = value_none entry.name now
    (not_before (λ (value : List ℕ × External). value.0) now (own spaces entry) (map (own spaces) (drop (i + 1) entries)) (subst (AreApart (λ (value : List ℕ × External). value.0)) (sym split) all)) in
    rw named none

pub values_more : (spaces : Spaces) (entries : List Export) (i : ℕ) (entry : Export) (now new : Values) (these : List ℕ) (value : External) → i < length entries → entry ≡ get_or entries i entry
    → now ++ map (own spaces) (drop i entries) ≡ map (own spaces) entries → these ≡ entry.name → (own spaces entry).1 ≡ value
    → new ≡ now ++ (these, value) ∷ [] → new ++ map (own spaces) (drop (i + 1) entries) ≡ map (own spaces) entries
values_more spaces entries i entry now new these value below is so_far named valued added =
    let one : ◌≡◌ {A = List ℕ × External} (these, value) (own spaces entry) = rw named (ap (λ (v : External). (entry.name, v)) (sym valued)) in
    ap (λ l. l ++ map (own spaces) (drop (i + 1) entries)) (added ∙ ap (λ v. now ++ v ∷ []) one)
    ∙ append_assoc now (own spaces entry ∷ []) (map (own spaces) (drop (i + 1) entries))
    ∙ ap (λ l. now ++ l) (sym (split_at (own spaces) entries i entry below is))
    ∙ so_far

-- ---- exported functions

pair_of_function : (part : List ℕ) (spaces : Spaces) (entry : Export) → entry.kind ≡ export.Function → pair (exported part spaces entry) ≡ Some (qualified part entry.name, number spaces.functions entry.index)
pair_of_function part spaces entry function =
    elim entry.kind as (λ kind. kind ≡ export.Function → pair (qualified part entry.name, record { kind = kind; number = number (space spaces kind) entry.index }) ≡ Some (qualified part entry.name, number spaces.functions entry.index)) [
      | export.Function ↦ λ h. refl
      | export.Table ↦ λ h. absurd (cc h)
      | export.Memory ↦ λ h. absurd (cc h)
      | export.Global ↦ λ h. absurd (cc h)
    ] function

pair_of_other : (part : List ℕ) (spaces : Spaces) (entry : Export) → (entry.kind ≡ export.Function → ⊥) → pair (exported part spaces entry) ≡ None
pair_of_other part spaces entry other =
    elim entry.kind as (λ kind. (kind ≡ export.Function → ⊥) → pair (qualified part entry.name, record { kind = kind; number = number (space spaces kind) entry.index }) ≡ None) [
      | export.Function ↦ λ h. absurd (h refl)
      | export.Table ↦ λ h. refl
      | export.Memory ↦ λ h. refl
      | export.Global ↦ λ h. refl
    ] other

filtered_at : (f : Export → Option (List ℕ × ℕ)) (entries : List Export) (i : ℕ) (entry : Export) → i < length entries → entry ≡ get_or entries i entry
    → filter_map f (drop i entries) ≡ cons_option (f entry) (filter_map f (drop (i + 1) entries))
filtered_at f entries i entry below is = ap (filter_map f) (drop_more entries i entry below) ∙ ap (λ e. cons_option (f e) (filter_map f (drop (i + 1) entries))) (sym is)

module _ (part : List ℕ) (spaces : Spaces) (entries : List Export) (i : ℕ) (entry : Export) (before now : Pairs) (below : i < length entries) (is : entry ≡ get_or entries i entry)
    (so_far : now ++ filter_map (λ entry. pair (exported part spaces entry)) (drop i entries) ≡ before ++ filter_map (λ entry. pair (exported part spaces entry)) entries) where
  -- the pairs of entries
  abbrev pairs_of : List Export → Pairs
  pairs_of list = filter_map (λ entry. pair (exported part spaces entry)) list

  split_pair : entry.kind ≡ export.Function → now ++ (qualified part entry.name, number spaces.functions entry.index) ∷ pairs_of (drop (i + 1) entries) ≡ before ++ pairs_of entries
  split_pair function =
      ap (λ o. now ++ cons_option o (pairs_of (drop (i + 1) entries))) (sym (pair_of_function part spaces entry function))
      ∙ ap (λ l. now ++ l) (sym (filtered_at (λ entry. pair (exported part spaces entry)) entries i entry below is))
      ∙ so_far

  pub pair_is_new : (whole these : List ℕ) → entry.kind ≡ export.Function → AreDistinct (before ++ pairs_of entries) → these ≡ entry.name → whole ≡ qualified part these → value_named whole now ≡ None
  pair_is_new whole these function distinct named spelled =
      let apart : AreApart (λ (one : List ℕ × ℕ). one.0) (now ++ (qualified part entry.name, number spaces.functions entry.index) ∷ pairs_of (drop (i + 1) entries)) =
      subst (AreApart (λ (one : List ℕ × ℕ). one.0)) (sym (split_pair function)) distinct in
      let none : value_named (qualified part entry.name) now ≡ None = value_none (qualified part entry.name) now
      (not_before (λ (one : List ℕ × ℕ). one.0) now (qualified part entry.name, number spaces.functions entry.index) (pairs_of (drop (i + 1) entries)) apart) in
      rw (spelled, named) none

  pub pairs_more : (new : Pairs) (whole these : List ℕ) (at : ℕ) → entry.kind ≡ export.Function → these ≡ entry.name → whole ≡ qualified part these → at ≡ number spaces.functions entry.index → new ≡ now ++ (whole, at) ∷ []
      → new ++ pairs_of (drop (i + 1) entries) ≡ before ++ pairs_of entries
  pairs_more new whole these at function named spelled numbered added =
      let one : ◌≡◌ {A = List ℕ × ℕ} (whole, at) (qualified part entry.name, number spaces.functions entry.index) = rw (spelled, named, numbered) refl in
      ap (λ l. l ++ pairs_of (drop (i + 1) entries)) (added ∙ ap (λ v. now ++ v ∷ []) one)
      ∙ append_assoc now ((qualified part entry.name, number spaces.functions entry.index) ∷ []) (pairs_of (drop (i + 1) entries))
      ∙ split_pair function

  pub pairs_same : (entry.kind ≡ export.Function → ⊥) → now ++ pairs_of (drop (i + 1) entries) ≡ before ++ pairs_of entries
  pairs_same other =
      ap (λ o. now ++ cons_option o (pairs_of (drop (i + 1) entries))) (sym (pair_of_other part spaces entry other))
      ∙ ap (λ l. now ++ l) (sym (filtered_at (λ entry. pair (exported part spaces entry)) entries i entry below is))
      ∙ so_far
