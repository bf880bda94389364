-- What stands behind the byte of a kind.
use Rattle.std.proofs.Common.{◌≡◌, ℕ, List, [], ◌∷◌, ◌++◌, ap, sym, ◌∙◌, refl, subst, Result, Ok}
use Rattle.std.specs.Result.{IsErrAnd}
use Rattle.bl_leb.specs.Grammar.{Spellings, ◌⨾◌, byte}
use Rattle.bl_wasm.specs.Values.{u32}
use Rattle.bl_wasm.specs.Types.{limits, table_type, global_type}
use Rattle.bl_wasm.specs.Sections.{import_kind}
use Rattle.bl_wasm.specs.declared.types.Limits.{Limits}
use Rattle.bl_wasm.specs.declared.types.GlobalType.{GlobalType}
use Rattle.bl_wasm.specs.declared.module.ImportKind.{ImportKind}
use Rattle.bl_wasm.specs.declared.module.ImportKind.TheVariants as import
use Rattle.bl_code.specs.ReaderAnswers.{IsAt, NoneAt, Refuses, Reads}
use Rattle.bl_code.specs.declared.error.CodeError.{CodeError}
use Rattle.bl_code.specs.declared.error.CodeError.TheVariants.{Malformed, Memory}
use Rattle.bl_code.proofs.Places.{passes, reads_behind, none_behind}

-- behind a byte
rest_of : (m n : ℕ) (S : Spellings) (t : List ℕ) → (byte m ⨾ S) (n ∷ t) → (m ≡ n) × S t
rest_of m n S t h =
    let whole : n ∷ t ≡ m ∷ h.rest = h.whole ∙ ap (λ f. f ++ h.rest) h.first in
    let first : m ≡ n = cc in
    let rest : h.rest ≡ t = cc in
    (first, subst S rest h.second)

pub kind_never_empty : (x : ImportKind) → import_kind x [] → ⊥
kind_never_empty (import.Function x) h = never (u32 x) h
  where
    never : (S : Spellings) → (byte 0 ⨾ S) [] → ⊥
    never S h = let e : [] ≡ 0 ∷ h.rest = h.whole ∙ ap (λ f. f ++ h.rest) h.first in cc
kind_never_empty (import.Table x) h = let e : [] ≡ 1 ∷ h.rest = h.whole ∙ ap (λ f. f ++ h.rest) h.first in cc
kind_never_empty (import.Memory x) h = let e : [] ≡ 2 ∷ h.rest = h.whole ∙ ap (λ f. f ++ h.rest) h.first in cc
kind_never_empty (import.Global x) h = let e : [] ≡ 3 ∷ h.rest = h.whole ∙ ap (λ f. f ++ h.rest) h.first in cc

-- a function
pub none_function : (x : ImportKind) (t : List ℕ) → import_kind x (0 ∷ t) → (y : ℕ) × u32 y t
none_function (import.Function x) t h = (x, (rest_of 0 0 (u32 x) t h).1)
none_function (import.Table x) t h = absurd (let e = (rest_of 1 0 (table_type x) t h).0 in cc)
none_function (import.Memory x) t h = absurd (let e = (rest_of 2 0 (limits x) t h).0 in cc)
none_function (import.Global x) t h = absurd (let e = (rest_of 3 0 (global_type x) t h).0 in cc)

pub none_table : (x : ImportKind) (t : List ℕ) → import_kind x (1 ∷ t) → (y : Limits) × table_type y t
none_table (import.Function x) t h = absurd (let e = (rest_of 0 1 (u32 x) t h).0 in cc)
none_table (import.Table x) t h = (x, (rest_of 1 1 (table_type x) t h).1)
none_table (import.Memory x) t h = absurd (let e = (rest_of 2 1 (limits x) t h).0 in cc)
none_table (import.Global x) t h = absurd (let e = (rest_of 3 1 (global_type x) t h).0 in cc)

pub none_memory : (x : ImportKind) (t : List ℕ) → import_kind x (2 ∷ t) → (y : Limits) × limits y t
none_memory (import.Function x) t h = absurd (let e = (rest_of 0 2 (u32 x) t h).0 in cc)
none_memory (import.Table x) t h = absurd (let e = (rest_of 1 2 (table_type x) t h).0 in cc)
none_memory (import.Memory x) t h = (x, (rest_of 2 2 (limits x) t h).1)
none_memory (import.Global x) t h = absurd (let e = (rest_of 3 2 (global_type x) t h).0 in cc)

pub none_global : (x : ImportKind) (t : List ℕ) → import_kind x (3 ∷ t) → (y : GlobalType) × global_type y t
none_global (import.Function x) t h = absurd (let e = (rest_of 0 3 (u32 x) t h).0 in cc)
none_global (import.Table x) t h = absurd (let e = (rest_of 1 3 (table_type x) t h).0 in cc)
none_global (import.Memory x) t h = absurd (let e = (rest_of 2 3 (limits x) t h).0 in cc)
none_global (import.Global x) t h = (x, (rest_of 3 3 (global_type x) t h).1)

-- why it isn't read is why no kind is
refuses_kind : {A : Type 0} (F : A → Spellings) (n : ℕ) (bytes : List ℕ) (i j : ℕ) (e : CodeError) → ((x : ImportKind) (t : List ℕ) → import_kind x (n ∷ t) → (y : A) × F y t) → IsAt byte bytes i j n → Refuses F bytes j e → Refuses import_kind bytes i e
refuses_kind F n bytes i j Malformed only first none =
    none_behind import_kind bytes i j n kind_never_empty first
    (λ x k h. let p = only x _ h.spelled in none p.0 k (record { forward = h.forward; inside = h.inside; spelled = p.1 }))
refuses_kind F n bytes i j Memory only first none = tt

module _ {A : Type 0} (F : A → Spellings) (n code : ℕ) (is : code ≡ n) (bytes : List ℕ) (i j : ℕ) (first : IsAt byte bytes i j code) where
  pub err_kind : (r : Result (ImportKind × ℕ) CodeError) (e : CodeError) → ((x : ImportKind) (t : List ℕ) → import_kind x (n ∷ t) → (y : A) × F y t) → IsErrAnd r (λ y. y ≡ e) → Refuses F bytes j e
      → Reads import_kind bytes i r
  err_kind r e only gives none = passes import_kind bytes i r e gives (refuses_kind F n bytes i j e only (subst (IsAt byte bytes i j) is first) none)

  -- a kind by its byte and what is behind it
  pub at_kind : (kind : A → ImportKind) (k : ℕ) (y : A) → ((z : A) (t : List ℕ) → (byte n ⨾ F z) t → import_kind (kind z) t) → IsAt F bytes j k y → IsAt import_kind bytes i k (kind y)
  at_kind kind k y spells h =
      reads_behind import_kind bytes i j n (Ok (kind y, k)) kind_never_empty (subst (IsAt byte bytes i j) is first)
      (record { forward = h.forward; inside = h.inside; spelled = spells y _ (record { front = n ∷ []; rest = _; whole = refl; first = refl; second = h.spelled }) })

-- no other byte begins a kind
other_kind : (n : ℕ) (x : ImportKind) (t : List ℕ) → (n ≡ 0 → ⊥) → (n ≡ 1 → ⊥) → (n ≡ 2 → ⊥) → (n ≡ 3 → ⊥) → import_kind x (n ∷ t) → ⊥
other_kind n (import.Function x) t a b c d h = a (sym (rest_of 0 n (u32 x) t h).0)
other_kind n (import.Table x) t a b c d h = b (sym (rest_of 1 n (table_type x) t h).0)
other_kind n (import.Memory x) t a b c d h = c (sym (rest_of 2 n (limits x) t h).0)
other_kind n (import.Global x) t a b c d h = d (sym (rest_of 3 n (global_type x) t h).0)

pub none_kind : (n : ℕ) (bytes : List ℕ) (i j : ℕ) → (n ≡ 0 → ⊥) → (n ≡ 1 → ⊥) → (n ≡ 2 → ⊥) → (n ≡ 3 → ⊥) → IsAt byte bytes i j n → NoneAt import_kind bytes i
none_kind n bytes i j a b c d first =
    none_behind import_kind bytes i j n kind_never_empty first (λ x k h. other_kind n x _ a b c d h.spelled)
