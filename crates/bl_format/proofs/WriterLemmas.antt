-- What writers add, by the combinators of the grammar.
use Rattle.std.proofs.Common.{◌≡◌, ◌<◌, ◌+◌, ℕ, suc, List, [], ◌∷◌, ◌++◌, length, take, get_or, append_assoc, ap, sym, ◌∙◌, refl, subst, arith}
use Rattle.std.proofs.Math.Seq.{take-suc}
use Rattle.bl_leb.specs.Grammar.{Spellings, ◌⨾◌}
use Rattle.bl_format.specs.Grammar.{each_after}
use Rattle.bl_program.specs.declared.definitions.MemRow.{MemRow}
use Rattle.bl_format.specs.Image.{row}
use Rattle.bl_format.specs.WriterAnswers.{Adds, HasLength}
use Rattle.bl_format.proofs.Chains.{behind, one_more}

-- a part, and another behind it
pub seq : {F S : Spellings} {old mid new : List ℕ} → Adds F old mid → Adds S mid new → Adds (F ⨾ S) old new
seq {old} p q = record {
  bytes = p.bytes ++ q.bytes;
  spelled = record { front = p.bytes; rest = q.bytes; whole = refl; first = p.spelled; second = q.spelled };
  appended = q.appended ∙ ap (λ t. t ++ q.bytes) p.appended ∙ append_assoc old p.bytes q.bytes;
}

-- what is spelled of a row behind its number has sixteen bytes
pub row_long : (one : MemRow) → length one.bytes ≡ 16 → HasLength (row one) 16
row_long one sixteen = record { bytes = one.bytes; spelled = (sixteen, refl); counted = omega (arith, sixteen) }

-- what spells the one spells the other
pub adds_as : {S T : Spellings} {old new : List ℕ} → ((t : List ℕ) → S t → T t) → Adds S old new → Adds T old new
adds_as along p = record { bytes = p.bytes; spelled = along p.bytes p.spelled; appended = p.appended }

-- one more of a chain
pub more_added : {S A : Type 0} (next : S → A → S) (B : S → A → Spellings) (state : S) (xs ys : List A) (x : A) (old mid new : List ℕ) → ys ≡ xs ++ x ∷ [] → Adds (each_after next B state xs) old mid → Adds (B (behind next state xs) x) mid new → Adds (each_after next B state ys) old new
more_added next B state xs ys x old mid new is p q = record {
  bytes = p.bytes ++ q.bytes;
  spelled = subst (λ l. each_after next B state l (p.bytes ++ q.bytes)) (sym is) (one_more next B state xs x p.bytes q.bytes p.spelled q.spelled);
  appended = q.appended ∙ ap (λ t. t ++ q.bytes) p.appended ∙ append_assoc old p.bytes q.bytes;
}

-- the first things and the next one
pub taken : {A : Type 0} (xs : List A) (i : ℕ) (x : A) → i < length xs → x ≡ get_or xs i x → take (i + 1) xs ≡ take i xs ++ x ∷ []
taken xs i x less is =
    let next : i + 1 ≡ suc i = omega arith in
    ap (λ k. take k xs) next ∙ take-suc xs i x less ∙ ap (λ y. take i xs ++ y ∷ []) (sym is)
