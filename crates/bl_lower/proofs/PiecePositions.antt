-- The piece that a position lies in.
use Rattle.std.proofs.Common.{◌≡◌, ℕ, ◌+◌, ◌<◌, ◌≤◌, List, [], ◌∷◌, length, refl, sym, ap, subst, arith, length-append, ◌⊎◌, inl, inr}
use Rattle.std.proofs.lemmas.Bool.{cases_lt}
use Rattle.bl_program.specs.declared.command.Command.{Command}
use Rattle.bl_lower.proofs.CodeLayout.{HasAt}
use Rattle.bl_lower.proofs.Pieces.{all_of, AllAt}
use Rattle.bl_lower.proofs.PlainRuns.{has_front, has_back}
use Rattle.bl_emit.proofs.Lists.{shift_is}

-- the piece of a list from a position on in which a position lies, and where it starts
abbrev pub Found : ℕ → List (List Command) → ℕ → ℕ → List Command → Type 0
Found position [] x start piece = ⊥
Found position (d ∷ ds) x start piece = ((position ≤ x) × (x < position + length d) × (start ≡ position) × (piece ≡ d)) ⊎ Found (position + length d) ds x start piece

-- a piece starts there
abbrev pub Starts : ℕ → List (List Command) → ℕ → Type 0
Starts position [] x = ⊥
Starts position (d ∷ ds) x = (position ≡ x) ⊎ Starts (position + length d) ds x

pub record Bounds (position : ℕ) (ds : List (List Command)) (x start : ℕ) (piece : List Command) : Type 0 where
  pub low : position ≤ start
  pub from : start ≤ x
  pub below : x < start + length piece
  pub high : start + length piece ≤ position + length (all_of ds)

pub bounds_of : (position : ℕ) (ds : List (List Command)) (x start : ℕ) (piece : List Command) → Found position ds x start piece → Bounds position ds x start piece
bounds_of position [] x start piece h = absurd h
bounds_of position (d ∷ ds) x start piece (inl h) = record {
  low = omega (arith, h.2);
  from = omega (arith, h.0, h.2);
  below = omega (arith, h.1, h.2, ap length h.3);
  high = omega (arith, h.2, ap length h.3, length-append d (all_of ds));
}
bounds_of position (d ∷ ds) x start piece (inr h) =
    let b = bounds_of (position + length d) ds x start piece h in
    record { low = omega (arith, b.low); from = b.from; below = b.below; high = omega (arith, b.high, length-append d (all_of ds)) }

pub found_same : (position : ℕ) (ds : List (List Command)) (x a b : ℕ) (p q : List Command) → Found position ds x a p → Found position ds x b q → (a ≡ b) × (p ≡ q)
found_same position [] x a b p q h i = absurd h
found_same position (d ∷ ds) x a b p q (inl h) (inl i) = (omega (arith, h.2, i.2), subst (λ l. p ≡ l) (sym i.3) h.3)
found_same position (d ∷ ds) x a b p q (inl h) (inr i) = let c = bounds_of (position + length d) ds x b q i in absurd (omega (arith, h.1, c.low, c.from))
found_same position (d ∷ ds) x a b p q (inr h) (inl i) = let c = bounds_of (position + length d) ds x a p h in absurd (omega (arith, i.1, c.low, c.from))
found_same position (d ∷ ds) x a b p q (inr h) (inr i) = found_same (position + length d) ds x a b p q h i

-- another position of the same piece
pub found_other : (position : ℕ) (ds : List (List Command)) (x y start : ℕ) (piece : List Command) → Found position ds x start piece → start ≤ y → y < start + length piece → Found position ds y start piece
found_other position [] x y start piece h low high = absurd h
found_other position (d ∷ ds) x y start piece (inl h) low high = inl (omega (arith, low, h.2), omega (arith, high, h.2, ap length h.3), h.2, h.3)
found_other position (d ∷ ds) x y start piece (inr h) low high = inr (found_other (position + length d) ds x y start piece h low high)

pub found_at : (P : ℕ → List Command → Type 0) (position : ℕ) (ds : List (List Command)) (x start : ℕ) (piece : List Command) → AllAt P position ds → Found position ds x start piece → P start piece
found_at P position [] x start piece all h = absurd h
found_at P position (d ∷ ds) x start piece all (inl h) = subst (λ n. P n piece) (sym h.2) (subst (P position) (sym h.3) all.0)
found_at P position (d ∷ ds) x start piece all (inr h) = found_at P (position + length d) ds x start piece all.1 h

pub find : (position : ℕ) (ds : List (List Command)) (x : ℕ) → position ≤ x → x < position + length (all_of ds) → (start : ℕ) × (piece : List Command) × Found position ds x start piece
find position [] x low high = absurd (omega (arith, low, high))
find position (d ∷ ds) x low high = elim (cases_lt x (position + length d)) [
  | inl lt ↦ (position, d, inl (low, lt, refl, refl))
  | inr le ↦ let r = find (position + length d) ds x le (omega (arith, high, length-append d (all_of ds))) in (r.0, r.1, inr r.2)
]

pub starts_found : (position : ℕ) (ds : List (List Command)) (x : ℕ) → AllAt (λ start piece. 1 ≤ length piece) position ds → Starts position ds x → (piece : List Command) × Found position ds x x piece
starts_found position [] x all h = absurd h
starts_found position (d ∷ ds) x all (inl h) = (d, inl (omega (arith, h), omega (arith, h, all.0), sym h, refl))
starts_found position (d ∷ ds) x all (inr h) = let r = starts_found (position + length d) ds x all.1 h in (r.0, inr r.1)

-- each piece starts where it stands
pub all_start : (position : ℕ) (ds : List (List Command)) (S : ℕ → Type 0) → ((x : ℕ) → Starts position ds x → S x) → AllAt (λ start piece. S start) position ds
all_start position [] S f = tt
all_start position (d ∷ ds) S f = (f position (inl refl), all_start (position + length d) ds S (λ x h. f x (inr h)))

pub found_stands : (code : List Command) (position : ℕ) (ds : List (List Command)) (x start : ℕ) (piece : List Command) → HasAt code position (all_of ds) → Found position ds x start piece → HasAt code start piece
found_stands code position [] x start piece has h = absurd h
found_stands code position (d ∷ ds) x start piece has (inl h) =
    subst (λ n. HasAt code n piece) (sym h.2) (subst (HasAt code position) (sym h.3) (has_front code position d (all_of ds) has))
found_stands code position (d ∷ ds) x start piece has (inr h) =
    found_stands code (position + length d) ds x start piece (subst (λ n. HasAt code n (all_of ds)) (shift_is (length d) position) (has_back code position d (all_of ds) has)) h
