-- Things that are spelled one after another.
use Rattle.std.proofs.Common.{◌≡◌, List, [], ◌∷◌, ◌++◌, append_assoc, append-nil, ap, sym, ◌∙◌, refl, ℕ}
use Rattle.bl_leb.specs.Grammar.{Spellings}
use Rattle.bl_format.specs.Grammar.{each_after}

-- the state behind things
abbrev pub behind : {S A : Type 0} → (S → A → S) → S → List A → S
behind next state [] = state
behind next state (x ∷ xs) = behind next (next state x) xs

pub behind_more : {S A : Type 0} (next : S → A → S) (state : S) (xs : List A) (x : A) → behind next state (xs ++ x ∷ []) ≡ next (behind next state xs) x
behind_more next state [] x = refl
behind_more next state (y ∷ xs) x = behind_more next (next state y) xs x

-- one more
pub one_more : {S A : Type 0} (next : S → A → S) (B : S → A → Spellings) (state : S) (xs : List A) (x : A) (a b : List ℕ) → each_after next B state xs a → B (behind next state xs) x b → each_after next B state (xs ++ x ∷ []) (a ++ b)
one_more next B state [] x a b p q = record { front = b; rest = []; whole = ap (λ t. t ++ b) p ∙ sym (append-nil b); first = q; second = refl }
one_more next B state (y ∷ xs) x a b p q = record {
  front = p.front;
  rest = p.rest ++ b;
  whole = ap (λ t. t ++ b) p.whole ∙ append_assoc p.front p.rest b;
  first = p.first;
  second = one_more next B (next state y) xs x p.rest b p.second q;
}
