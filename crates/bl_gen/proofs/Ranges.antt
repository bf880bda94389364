-- What stands for each number of a range.
use Rattle.std.proofs.Common.{◌≡◌, ℕ, zero, suc, ◌+◌, List, [], ◌∷◌, ◌++◌, ap, sym, ◌∙◌, append-nil, append_assoc, arith}
use Rattle.std.specs.List.{flat_map, range_with_len}
use Rattle.std.proofs.lemmas.Grind.{flat_map-append}
use Rattle.std.proofs.lemmas.List.Concat.{flat_map-cons}

-- one more number
range_more : (a n : ℕ) → range_with_len a (suc n) ≡ range_with_len a n ++ (a + n) ∷ []
range_more a zero = ap (λ x. x ∷ []) (omega arith)
range_more a (suc n) =
    let e : (a + 1) + n ≡ a + suc n = omega arith in
    ap (λ xs. a ∷ xs) (range_more (a + 1) n ∙ ap (λ x. range_with_len (a + 1) n ++ x ∷ []) e)

pub pieces_more : {A : Type 0} (f : ℕ → List A) (n : ℕ) → flat_map f (range_with_len 0 (n + 1)) ≡ flat_map f (range_with_len 0 n) ++ f n
pieces_more f n =
    let e : n + 1 ≡ suc n = omega arith in
    let zero_plus : 0 + n ≡ n = omega arith in
    ap (λ k. flat_map f (range_with_len 0 k)) e ∙ ap (flat_map f) (range_more 0 n ∙ ap (λ k. range_with_len 0 n ++ k ∷ []) zero_plus) ∙ flat_map-append f (range_with_len 0 n) (n ∷ [])
    ∙ ap (λ t. flat_map f (range_with_len 0 n) ++ t) (flat_map-cons f n [] ∙ append-nil (f n))

-- behind what is there already
pub behind_more : {A : Type 0} (f : ℕ → List A) (before now next : List A) (n : ℕ) → now ≡ before ++ flat_map f (range_with_len 0 n) → next ≡ now ++ f n → next ≡ before ++ flat_map f (range_with_len 0 (n + 1))
behind_more f before now next n is put =
    put ∙ ap (λ t. t ++ f n) is ∙ append_assoc before (flat_map f (range_with_len 0 n)) (f n) ∙ ap (λ t. before ++ t) (sym (pieces_more f n))
