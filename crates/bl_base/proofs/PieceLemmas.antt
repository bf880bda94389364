-- Texts that are written piece by piece.
use Rattle.std.proofs.Common.{◌≡◌, ℕ, suc, ◌+◌, ◌-◌, ◌<◌, ◌≤◌, List, ◌++◌, append-nil, append_assoc, sym, ap, ◌∙◌, arith}
use Rattle.std.specs.List.{flat_map, range_with_len}

-- a piece for each number from one on
module _ (piece : ℕ → List ℕ) where
  pub pieces_next : (text : List ℕ) (i n : ℕ) → i < n → (text ++ piece i) ++ flat_map piece (range_with_len (i + 1) (n - (i + 1))) ≡ text ++ flat_map piece (range_with_len i (n - i))
  pieces_next text i n lt =
      let count : n - i ≡ suc (n - (i + 1)) = omega arith in
      append_assoc text (piece i) (flat_map piece (range_with_len (i + 1) (n - (i + 1))))
      ∙ ap (λ k. text ++ flat_map piece (range_with_len i k)) (sym count)

  pub pieces_all : (text all : List ℕ) (i n : ℕ) → n ≤ i → text ++ flat_map piece (range_with_len i (n - i)) ≡ all → text ≡ all
  pieces_all text all i n le e =
      let none : n - i ≡ 0 = omega arith in
      sym (append-nil text) ∙ ap (λ k. text ++ flat_map piece (range_with_len i k)) (sym none) ∙ e
