-- Sections that may be missing.
use Rattle.std.proofs.Common.{◌≡◌, ◌⊎◌, inl, inr, ℕ, ◌+◌, ◌≤◌, List, [], ◌∷◌, length, ap, sym, ◌∙◌, refl, arith, slice_get, Option, Some, None, Result, Ok, Err}
use Rattle.bl_leb.proofs.Places.{length_range}
use Rattle.std.specs.Result.{IsErrAnd}
use Rattle.std.proofs.lemmas.Result.{err_from_is_err_and}
use Rattle.bl_leb.specs.Grammar.{Spellings}
use Rattle.bl_wasm.specs.Values.{u32, vec, sized}
use Rattle.bl_wasm.specs.Sections.{section, vec_section, start_section}
use Rattle.bl_code.specs.ReaderAnswers.{IsAt, Refuses, Reads}
use Rattle.bl_code.specs.Unique.{PrefixFree}
use Rattle.bl_code.specs.Laws.{u32_prefix_free}
use Rattle.bl_code.specs.declared.error.CodeError.{CodeError}
use Rattle.bl_code.specs.declared.error.CodeError.TheVariants.{Malformed, Memory}
use Rattle.bl_code.proofs.Unique.{vec_prefix_free, sized_prefix_free}
use Rattle.bl_code.proofs.Places.{stands, is_at}
use Rattle.bl_decode.specs.Chains.{Begins, IsSection, ReadsSection}
use Rattle.bl_decode.specs.Laws.{marked_prefix_free}
use Rattle.bl_decode.proofs.FirstBytes.{section_begins}
use Rattle.bl_decode.proofs.Sizes.{at_section, section_parts}

-- a section of an id, or nothing
pub record IsOptional {A C : Type 0} (id : ℕ) (B : C → Spellings) (some : C → A) (none : A) (S : A → Spellings) : Type 0 where
  pub parts : (x : A) (t : List ℕ) → S x t → ((y : C) × (x ≡ some y) × section id (B y) t) ⊎ ((x ≡ none) × (t ≡ []))
  pub standing : (y : C) (t : List ℕ) → section id (B y) t → S (some y) t
  pub missing : S none []

never : {n : ℕ} {t : List ℕ} → t ≡ [] → Begins n t → ⊥
never {n} e h = let no : [] ≡ n ∷ h.behind = sym e ∙ h.whole in cc

-- what is missing
gone : {A C : Type 0} {id : ℕ} {B : C → Spellings} {some : C → A} {none : A} {S : A → Spellings} → IsOptional id B some none S → (x : A) → S x [] → x ≡ none
gone {id} {B} is x h = elim (is.parts x [] h) [
  | inl p ↦ absurd (never refl (section_begins id (B p.0) [] p.2))
  | inr p ↦ p.0
]

-- what stands there
there : {A C : Type 0} {id : ℕ} {B : C → Spellings} {some : C → A} {none : A} {S : A → Spellings} → IsOptional id B some none S → (x : A) (t : List ℕ) → S x t → (t ≡ [] → ⊥) → (y : C) × (x ≡ some y) × section id (B y) t
there is x t h full = elim (is.parts x t h) [
  | inl p ↦ p
  | inr p ↦ absurd (full p.1)
]

pub optional_section : {A C : Type 0} {id : ℕ} {B : C → Spellings} {some : C → A} {none : A} {S : A → Spellings} → IsOptional id B some none S → PrefixFree B → IsSection id S
optional_section {id} {B} {some} is one = record {
  begins = λ x t h. elim (is.parts x t h) [
    | inl p ↦ inr (section_begins id (B p.0) t p.2)
    | inr p ↦ inl p.1
  ];
  missing = λ x y p q. gone is x p ∙ sym (gone is y q);
  standing = λ x y a b u v p q front other e.
      let l = there is x a p (λ empty. never empty front) in
      let r = there is y b q (λ empty. never empty other) in
      let same = ((marked_prefix_free id (λ z. sized (B z)) (sized_prefix_free one)).same l.0 r.0).both a b u v l.2 r.2 e in
      (same.0, l.1 ∙ ap some same.1 ∙ sym r.1);
}

pub reads_missing : {A C : Type 0} {id : ℕ} {B : C → Spellings} {some : C → A} {none : A} {S : A → Spellings} → IsOptional id B some none S → (bytes : List ℕ) (i : ℕ) → i ≤ length bytes → (slice_get bytes i ≡ Some id → ⊥) → ReadsSection id S bytes i (Ok (none, i))
reads_missing {none} {S} is bytes i inside other =
    (is_at S bytes i i none (record { forward = omega arith; inside = inside; front = []; whole = refl; spelled = is.missing }), λ h. absurd (other h))

pub reads_standing : {A C : Type 0} {id : ℕ} {B : C → Spellings} {some : C → A} {none : A} {S : A → Spellings} → IsOptional id B some none S → (bytes : List ℕ) (i end : ℕ) (y : C) → slice_get bytes i ≡ Some id → IsAt (λ z. sized (B z)) bytes (i + 1) end y → ReadsSection id S bytes i (Ok (some y, end))
reads_standing {id} {B} {some} {S} is bytes i end y first h =
    let p = stands (λ z. section id (B z)) bytes i end y (at_section B id bytes i end y first h) in
    let forward = h.forward in
    (is_at S bytes i end (some y) (record { forward = p.forward; inside = p.inside; front = p.front; whole = p.whole; spelled = is.standing y p.front p.spelled }), λ e. omega arith)

pub reads_error : {A C : Type 0} {id : ℕ} {B : C → Spellings} {some : C → A} {none : A} {S : A → Spellings} → IsOptional id B some none S → (bytes : List ℕ) (i : ℕ) (e : CodeError) → slice_get bytes i ≡ Some id → Refuses (λ z. sized (B z)) bytes (i + 1) e → ReadsSection id S bytes i (Err e)
reads_error {id} {B} {S} is bytes i Malformed first h = (
  first,
  λ x end less p.
      let f = p.forward in
      let g = p.inside in
      let y = there is x _ p.spelled (λ empty. let short = ap length empty in omega (arith, length_range bytes i end f g)) in
      h y.0 end (section_parts B id bytes i end y.0 (record { forward = f; inside = g; spelled = y.2 })).1,
)
reads_error is bytes i Memory first h = tt

pub reads_tail : {C : Type 0} {id : ℕ} {B : C → Spellings} {none : C} {S : C → Spellings} → IsOptional id B (λ x. x) none S → (bytes : List ℕ) (i : ℕ) (r : Result (C × ℕ) CodeError) → slice_get bytes i ≡ Some id → Reads (λ z. sized (B z)) bytes (i + 1) r → ReadsSection id S bytes i r
reads_tail is bytes i (Ok found) first h = reads_standing is bytes i found.1 found.0 first h
reads_tail is bytes i (Err e) first h = reads_error is bytes i e first h

pub err_section_passes : {A C : Type 0} {id : ℕ} {B : C → Spellings} {some : C → A} {none : A} {S : A → Spellings} → IsOptional id B some none S → (bytes : List ℕ) (i : ℕ) (r : Result (A × ℕ) CodeError) (e : CodeError) → IsErrAnd r (λ y. y ≡ e) → slice_get bytes i ≡ Some id → Refuses (λ z. sized (B z)) bytes (i + 1) e → ReadsSection id S bytes i r
err_section_passes is bytes i r e gives first h = let p = err_from_is_err_and r gives in rw (p.1, p.2) (reads_error is bytes i e first h)

-- vectors
pub vectors_optional : {A : Type 0} (id : ℕ) (B : A → Spellings) → IsOptional id (vec B) (λ x. x) [] (vec_section id B)
vectors_optional id B = record {
  parts = λ x t h. elim h [ inl p ↦ inl (x, refl, p) | inr p ↦ inr p ];
  standing = λ y t h. inl h;
  missing = inr (refl, refl);
}

pub vectors_section : {A : Type 0} (id : ℕ) (B : A → Spellings) → PrefixFree B → IsSection id (vec_section id B)
vectors_section id B one = optional_section (vectors_optional id B) (vec_prefix_free one)

-- the start
start_parts : (x : Option ℕ) (t : List ℕ) → start_section x t → ((y : ℕ) × (x ≡ Some y) × section 8 (u32 y) t) ⊎ ((x ≡ None) × (t ≡ []))
start_parts (Some y) t h = inl (y, refl, h)
start_parts None t h = inr (refl, h)

pub start_optional : IsOptional 8 u32 Some None start_section
start_optional = record { parts = start_parts; standing = λ y t h. h; missing = refl }

pub start_is_section : IsSection 8 start_section
start_is_section = optional_section start_optional u32_prefix_free
