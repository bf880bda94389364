-- Reports, piece by piece.
use Rattle.std.proofs.Common.{◌≡◌, ℕ, suc, ◌+◌, ◌<◌, ◌≤◌, List, [], ◌∷◌, ◌++◌, length, drop, get_or, append-nil, sym, ap, ◌∙◌, arith}
use Rattle.std.specs.Prelude.{codes}
use Rattle.std.specs.Fmt.{decimal}
use Rattle.std.specs.List.{flat_map}
use Rattle.std.proofs.Math.Seq.{drop-cons}
use Rattle.std.proofs.lemmas.List.{append_assoc, at_drop_all}
use Rattle.bl_graph.specs.declared.secret.SecretChain.{SecretChain}
use Rattle.bl_outcome.specs.Lines.{line}
use Rattle.bl_report.specs.Reports.{chain_text, origin_text, through_text}

-- four lines from their pieces, with the line feed n
regroup : (n a f b c d s e p g w : List ℕ) → a ++ (f ++ (n ++ (b ++ (c ++ (n ++ (d ++ (s ++ (n ++ (e ++ (p ++ (g ++ (w ++ n))))))))))))
    ≡ (a ++ f ++ n) ++ (b ++ c ++ n) ++ (d ++ s ++ n) ++ (e ++ p ++ g ++ w ++ n)
regroup n a f b c d s e p g w = simp append_assoc

pub lines : (functions commands all some weight f c s p w : ℕ) → functions ≡ f → commands ≡ c → all ≡ s → some ≡ p → weight ≡ w
    → codes "functions " ++ (decimal functions ++ (10 ∷ codes "commands " ++ (decimal commands ++ (10 ∷ codes "sites " ++ (decimal all ++ (10 ∷ codes "protects " ++ (decimal some ++ (codes " weight " ++ (decimal weight ++ 10 ∷ [])))))))))
    ≡ line (codes "functions " ++ decimal f) ++ line (codes "commands " ++ decimal c) ++ line (codes "sites " ++ decimal s) ++ line (codes "protects " ++ decimal p ++ codes " weight " ++ decimal w)
lines functions commands all some weight f c s p w e₁ e₂ e₃ e₄ e₅ =
    rw (e₁, e₂, e₃, e₄, e₅)
    (regroup (10 ∷ []) (codes "functions ") (decimal f) (codes "commands ") (decimal c) (codes "sites ") (decimal s) (codes "protects ") (decimal p) (codes " weight ") (decimal w))

-- the line of a way of a secret from its pieces
way : (n t a o p e d : List ℕ) → (((t ++ a) ++ o) ++ p) ++ (e ++ (d ++ n)) ≡ t ++ (a ++ (o ++ p ++ e ++ d) ++ n)
way n t a o p e d = simp append_assoc

pub chain_line : (text head from through tail : List ℕ) (chain : SecretChain) → head ≡ text ++ codes "constant-time no "
    → from ≡ origin_text chain.origin → through ≡ head ++ from ++ through_text chain.through
    → tail ≡ codes " end " ++ (decimal chain.end.0 ++ 10 ∷ []) → through ++ tail ≡ text ++ line (codes "constant-time no " ++ chain_text chain)
chain_line text head from through tail chain e₁ e₂ e₃ e₄ =
    rw (e₃, e₁, e₂, e₄)
    (way (10 ∷ []) text (codes "constant-time no ") (origin_text chain.origin) (through_text chain.through) (codes " end ") (decimal chain.end.0))

-- ---- a piece for each item from one on

module _ {X : Type 0} (piece : X → List ℕ) where
  pub items_next : (text : List ℕ) (xs : List X) (i : ℕ) (x d : X) → i < length xs → x ≡ get_or xs i d
      → (text ++ piece x) ++ flat_map piece (drop (i + 1) xs) ≡ text ++ flat_map piece (drop i xs)
  items_next text xs i x d lt is =
      let next : i + 1 ≡ suc i = omega arith in
      append_assoc text (piece x) (flat_map piece (drop (i + 1) xs))
      ∙ ap (λ y. text ++ (piece y ++ flat_map piece (drop (i + 1) xs))) is
      ∙ ap (λ j. text ++ flat_map piece (get_or xs i d ∷ drop j xs)) next
      ∙ ap (λ l. text ++ flat_map piece l) (sym (drop-cons xs i d lt))

  pub items_all : (text all : List ℕ) (xs : List X) (i : ℕ) → length xs ≤ i → text ++ flat_map piece (drop i xs) ≡ all → text ≡ all
  items_all text all xs i le e = sym (append-nil text) ∙ sym (at_drop_all (λ l. text ++ flat_map piece l) xs i le) ∙ e
