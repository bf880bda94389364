-- How long spellings are, by the combinators of the grammar.
use Rattle.std.proofs.Common.{◌≡◌, ◌<◌, ◌≤◌, ◌+◌, ◌-◌, ◌^◌, ◌/◌, ◌%◌, ◌⊎◌, inl, inr, ℕ, List, [], ◌∷◌, ◌++◌, length-append, refl, sym, subst, arith}
use Rattle.std.specs.Prelude.{min}
use Rattle.bl_leb.specs.Grammar.{Spellings, ◌⨾◌, nothing, byte}
use Rattle.bl_leb.specs.Numbers.{IsUnsigned}
use Rattle.bl_leb.specs.Spellings.{IsShortest}
use Rattle.bl_leb.proofs.Bits.{power_grows}
use Rattle.bl_leb.proofs.Unsigned.{power_split, shortest_one, shortest_more}
use Rattle.bl_format.specs.Grammar.{each_after}
use Rattle.bl_format.specs.Image.{magic, header}
use Rattle.bl_format.specs.WriterAnswers.{HasLength}
use Rattle.bl_format.proofs.Chains.{behind, one_more}

abbrev pub MOST : ℕ
MOST = 2 ^ 64 - 1

-- no bytes, and one
pub none_long : HasLength nothing 0
none_long = record { bytes = []; spelled = refl; counted = refl }

pub byte_long : (n : ℕ) → HasLength (byte n) 1
byte_long n = record { bytes = n ∷ []; spelled = refl; counted = refl }

-- what spells the one spells the other
pub long_as : {S T : Spellings} {n : ℕ} → ((t : List ℕ) → S t → T t) → HasLength S n → HasLength T n
long_as along p = record { bytes = p.bytes; spelled = along p.bytes p.spelled; counted = p.counted }

-- a part, and others behind it
pub two : {F S : Spellings} {a b n : ℕ} → HasLength F a → HasLength S b → n ≡ min (a + b) MOST → HasLength (F ⨾ S) n
two p q is = record {
  bytes = p.bytes ++ q.bytes;
  spelled = record { front = p.bytes; rest = q.bytes; whole = refl; first = p.spelled; second = q.spelled };
  counted = omega (arith, p.counted, q.counted, is, length-append p.bytes q.bytes);
}

pub three : {F S T : Spellings} {a b c n : ℕ} → HasLength F a → HasLength S b → HasLength T c → n ≡ min (min (a + b) MOST + c) MOST → HasLength (F ⨾ S ⨾ T) n
three {b} {c} p q r is = two p (two {n = min (b + c) MOST} q r refl) (omega arith)

pub four : {F S T U : Spellings} {a b c d n : ℕ} → HasLength F a → HasLength S b → HasLength T c → HasLength U d → n ≡ min (min (min (a + b) MOST + c) MOST + d) MOST
    → HasLength (F ⨾ S ⨾ T ⨾ U) n
four {b} {c} {d} p q r s is = two p (three {n = min (min (b + c) MOST + d) MOST} q r s refl) (omega arith)

-- the magic and the version
pub header_long : (v : ℕ) → HasLength (header v) 5
header_long v = two (record { bytes = magic; spelled = refl; counted = refl }) (byte_long v) refl

-- one more of a chain
pub more_long : {S A : Type 0} (next : S → A → S) (B : S → A → Spellings) (state : S) (xs ys : List A) (x : A) (a b n : ℕ) → ys ≡ xs ++ x ∷ []
    → HasLength (each_after next B state xs) a → HasLength (B (behind next state xs) x) b → n ≡ min (a + b) MOST → HasLength (each_after next B state ys) n
more_long next B state xs ys x a b n is p q sum = record {
  bytes = p.bytes ++ q.bytes;
  spelled = subst (λ l. each_after next B state l (p.bytes ++ q.bytes)) (sym is) (one_more next B state xs x p.bytes q.bytes p.spelled q.spelled);
  counted = omega (arith, p.counted, q.counted, sum, length-append p.bytes q.bytes);
}

-- numbers at whatever width they have
abbrev pub Number : ℕ → ℕ → Spellings
Number width v bytes = IsShortest (IsUnsigned width) bytes v

pub small_long : (v width : ℕ) → v < 128 → v < 2 ^ width → HasLength (Number width v) 1
small_long v width small fits = record { bytes = v ∷ []; spelled = shortest_one width v small fits; counted = refl }

pub large_long : (v q n : ℕ) → 128 ≤ v → ((width : ℕ) → v / 128 < 2 ^ width → HasLength (Number width (v / 128)) q) → n ≡ min (q + 1) MOST
    → (width : ℕ) → v < 2 ^ width → HasLength (Number width v) n
large_long v q n large rest is width fits =
    let cases : (width ≤ 7) ⊎ (7 < width) = grind arith in
    let wide : 7 < width = elim cases [ inl narrow ↦ (let most = power_grows width 7 narrow in absurd (omega arith)) | inr more ↦ more ] in
    let split = power_split width wide in
    let high = rest (width - 7) (omega arith) in
    record {
      bytes = (v % 128 + 128) ∷ high.bytes;
      spelled = shortest_more width (v % 128 + 128) (v / 128) v high.bytes (omega arith) (omega arith) wide high.spelled (omega arith) (omega arith);
      counted = omega (arith, high.counted, is);
    }
