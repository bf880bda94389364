-- The labels of a place, by the frames of the constructs that are open.
use Rattle.std.proofs.Common.{◌≡◌, ◌↔◌, ℕ, suc, zero, ◌++◌, List, [], ◌∷◌, length, map, Option, Some, refl, sym, ap, ◌∙◌, subst, arith, length-append}
use Rattle.std.specs.List.{All}
use Rattle.std.proofs.lemmas.List.Elements.{All-append}
use Rattle.std.proofs.Math.ListN.{get_or-append}
use Rattle.std.proofs.Math.Seq.{get_or-append_seam}
use Rattle.std.proofs.lemmas.Option.{same_Some}
use Rattle.bl_wasm.specs.Typing.{Open, Context, labels, taken_by}
use Rattle.bl_wasm.specs.declared.types.WasmType.{WasmType}
use Rattle.bl_validate.specs.declared.stacks.Frame.{Frame}
use Rattle.bl_validate.specs.Represents.{AreOpen, nesting_kind, construct_type}

abbrev taken : Frame → List WasmType
taken frame = taken_by (nesting_kind frame.construct.kind) (construct_type frame.construct)

-- the labels of what is open are those of the frames
pub labels_are : (c : Context) (frames : List Frame) (open_ones : List Open) → AreOpen frames open_ones → labels c open_ones ≡ map taken frames ++ c.results ∷ []
labels_are c [] [] a = refl
labels_are c [] (one ∷ outer) a = absurd a
labels_are c (frame ∷ frames) [] a = absurd a
labels_are c (frame ∷ frames) (one ∷ outer) a =
    let is : taken_by one.kind one.type ≡ taken frame = rw (a.0.kind, a.0.type) refl in
    ap (λ types. types ∷ labels c outer) is ∙ ap (λ rest. taken frame ∷ rest) (labels_are c frames outer a.2)

-- ---- labels of a table

-- the last of several
last_of : {A : Type 0} (P : A → Type 0) (xs : List A) (d : A) → All P (xs ++ d ∷ []) → P d
last_of P xs d h = subst P (get_or-append_seam xs d [] d) (h (length xs) d (omega (arith, length-append xs (d ∷ []))))

all_front : {A : Type 0} (P : A → Type 0) (xs : List A) (d : A) → All P (xs ++ d ∷ []) → All P xs
all_front P xs d h k e n = subst P (get_or-append xs (d ∷ []) e k n) (h k e (omega (arith, length-append xs (d ∷ []))))

all_snoc : {A : Type 0} (P : A → Type 0) (xs : List A) (d : A) → All P xs → P d → All P (xs ++ d ∷ [])
all_snoc P xs d h last = All-append P xs (d ∷ []) h (one P d last)
  where
    one : {A : Type 0} (P : A → Type 0) (d : A) → P d → All P (d ∷ [])
    one P d h zero e n = h
    one P d h (suc k) e n = absurd (omega arith)

-- all labels take the types that the default label takes
pub all_same : {A : Type 0} (get : ℕ → Option A) (ls : List ℕ) (d : ℕ) (t : A) (Q : A → Type 0) → All (λ l. get l ≡ Some t) ls → Some t ≡ get d
    → ((type : A) × All (λ l. get l ≡ Some type) (ls ++ d ∷ []) × Q type) ↔ Q t
all_same get ls d t Q all is = (
  λ p. subst Q (same_Some p.0 t (sym (last_of (λ l. get l ≡ Some p.0) ls d p.1) ∙ sym is)) p.2,
  λ q. (t, all_snoc (λ l. get l ≡ Some t) ls d all (sym is), q),
)

-- or not all
pub not_all_same : {A : Type 0} (get : ℕ → Option A) (ls : List ℕ) (d : ℕ) (t : A) (Q : A → Type 0) → (All (λ l. get l ≡ Some t) ls → ⊥) → Some t ≡ get d
    → ((type : A) × All (λ l. get l ≡ Some type) (ls ++ d ∷ []) × Q type) ↔ ⊥
not_all_same get ls d t Q never is = (
  λ p. let same : p.0 ≡ t = same_Some p.0 t (sym (last_of (λ l. get l ≡ Some p.0) ls d p.1) ∙ sym is) in
      never (subst (λ t. All (λ l. get l ≡ Some t) ls) same (all_front (λ l. get l ≡ Some p.0) ls d p.1)),
  λ b. absurd b,
)
