-- Texts that are written piece by piece.
use Rattle.std.proofs.Common.{◌≡◌, ◌≢◌, ℕ, List, [], ◌∷◌, ◌++◌, append-nil, append_assoc, sym, ap, ◌∙◌, eq-eqb}
use Rattle.std.specs.Prelude.{◌==◌, codes}
use Rattle.std.specs.List.{flat_map, range_with_len}
use Rattle.std.proofs.lemmas.Bool.{cond-true, cond-false, eqb-true, false_from_ne_true}
use Rattle.bl_trace.specs.Observations.{guard_text, guards_below}

-- a text of two numbers
pub two_numbers : (head one middle other : List ℕ) → head ++ (one ++ (middle ++ other)) ≡ head ++ one ++ middle ++ other
two_numbers head one middle other = simp append_assoc

-- ---- guards

-- a line without guards, and one with them
pub without_guards : (count mask : ℕ) (text : List ℕ) → mask ≡ 0 → text ++ 10 ∷ [] ≡ text ++ guards_below count mask ++ 10 ∷ []
without_guards count mask text none =
    ap (λ t. t ++ 10 ∷ []) (sym (append-nil text) ∙ ap (λ t. text ++ t) (sym (cond-true (mask == 0) [] _ (eq-eqb mask 0 none))))

pub with_guards : (count mask : ℕ) (text : List ℕ) → mask ≢ 0 → text ++ codes " guards" ++ flat_map (guard_text mask) (range_with_len 0 count) ++ 10 ∷ [] ≡ text ++ guards_below count mask ++ 10 ∷ []
with_guards count mask text some =
    ap (λ t. t ++ 10 ∷ [])
    (append_assoc text (codes " guards") (flat_map (guard_text mask) (range_with_len 0 count))
    ∙ ap (λ t. text ++ t) (sym (cond-false (mask == 0) [] (codes " guards" ++ flat_map (guard_text mask) (range_with_len 0 count)) (false_from_ne_true (mask == 0) (λ e. some (eqb-true mask 0 e))))))
