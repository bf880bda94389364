-- Lists of a function's values.
use Rattle.std.proofs.Common.{◌≡◌, inl, inr, ℕ, zero, suc, ◌+◌, ◌<◌, List, [], ◌∷◌, ◌++◌, length, get_or, refl, sym, ap, ◌∙◌, subst, arith}
use Rattle.std.proofs.lemmas.Bool.{cases_lt}
use Rattle.bl_program.specs.Layout.{AreValues}

-- at the end of a list
get_front : (xs : List ℕ) (y i : ℕ) → i < length xs → get_or (xs ++ y ∷ []) i 0 ≡ get_or xs i 0
get_front [] y i lt = absurd (omega arith)
get_front (x ∷ xs) y zero lt = refl
get_front (x ∷ xs) y (suc i) lt = get_front xs y i (omega arith)

get_end : (xs : List ℕ) (y : ℕ) → get_or (xs ++ y ∷ []) (length xs) 0 ≡ y
get_end [] y = refl
get_end (x ∷ xs) y = get_end xs y

length_end : (xs : List ℕ) (y : ℕ) → length (xs ++ y ∷ []) ≡ suc (length xs)
length_end [] y = refl
length_end (x ∷ xs) y = ap suc (length_end xs y)

-- one value more
pub values_more : (f : ℕ → ℕ) (count y : ℕ) (xs : List ℕ) → AreValues f count xs → y ≡ f (suc count) → AreValues f (suc count) (xs ++ y ∷ [])
values_more f count y xs values e = record {
  len = length_end xs y ∙ ap suc values.len;
  each = λ i le. elim (cases_lt i (suc count)) as (λ _. get_or (xs ++ y ∷ []) i 0 ≡ f i) [
    | inl less ↦ let here = values.len in get_front xs y i (omega arith) ∙ values.each i (omega arith)
    | inr more ↦ let here = values.len in let last : i ≡ length xs = omega arith in let same : i ≡ suc count = omega arith in subst (λ (k : ℕ). get_or (xs ++ y ∷ []) k 0 ≡ f i) (sym last) (get_end xs y ∙ e ∙ ap f (sym same))
  ];
}

pub values_next : (f : ℕ → ℕ) (count y : ℕ) (xs new : List ℕ) → new ≡ xs ++ y ∷ [] → AreValues f count xs → y ≡ f (count + 1) → AreValues f (count + 1) new
values_next f count y xs new is values e =
    let next : count + 1 ≡ suc count = omega arith in
    subst (AreValues f (count + 1)) (sym is) (subst (λ (k : ℕ). AreValues f k (xs ++ y ∷ [])) (sym next) (values_more f count y xs values (e ∙ ap f next)))
