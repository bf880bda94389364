-- Bytes of two spaces: what is loaded and what is stored where they agree.
use Rattle.std.proofs.Common.{◌≡◌, ◌≢◌, ◌⊎◌, inl, inr, ℕ, zero, suc, ◌+◌, ◌<◌, ◌≤◌, List, [], ◌∷◌, length, take, drop, set, Some, slice_get, refl, sym, ap, ◌∙◌, arith}
use Rattle.bl_program.specs.Steps.{overlay}
use Rattle.bl_bytes.proofs.OverlayLemmas.{overlay_next, overlay_none}

module _ {A : Type 0} where
  fronts : (count : ℕ) (xs ys : List A) → ((i : ℕ) → i < count → slice_get xs i ≡ slice_get ys i) → take count xs ≡ take count ys
  fronts zero xs ys h = refl
  fronts (suc count) [] [] h = refl
  fronts (suc count) [] (y ∷ ys) h = let e = h 0 (omega arith) in cc
  fronts (suc count) (x ∷ xs) [] h = let e = h 0 (omega arith) in cc
  fronts (suc count) (x ∷ xs) (y ∷ ys) h =
      let e : Some x ≡ Some y = h 0 (omega arith) in
      let same : x ≡ y = cc in
      let rest = fronts count xs ys (λ i lt. h (suc i) (omega arith)) in
      cc

  abbrev none : List A
  none = []

  nothing : (count from : ℕ) → take count (drop (suc from) none) ≡ take count (drop from none)
  nothing count zero = refl
  nothing count (suc from) = refl

  -- parts of two lists that have the same items there
  pub parts : (from count : ℕ) (xs ys : List A) → ((i : ℕ) → from ≤ i → i < from + count → slice_get xs i ≡ slice_get ys i)
      → take count (drop from xs) ≡ take count (drop from ys)
  parts zero count xs ys h = fronts count xs ys (λ i lt. h i (omega arith) (omega arith))
  parts (suc from) count [] [] h = refl
  parts (suc from) count [] (y ∷ ys) h = nothing count from ∙ parts from count [] ys (λ i le lt. h (suc i) (omega arith) (omega arith))
  parts (suc from) count (x ∷ xs) [] h = parts from count xs [] (λ i le lt. h (suc i) (omega arith) (omega arith)) ∙ sym (nothing count from)
  parts (suc from) count (x ∷ xs) (y ∷ ys) h = parts from count xs ys (λ i le lt. h (suc i) (omega arith) (omega arith))

  -- an item that is set
  set_other : (xs : List A) (k i : ℕ) (x : A) → i ≢ k → slice_get (set xs k x) i ≡ slice_get xs i
  set_other [] k i x apart = refl
  set_other (y ∷ xs) zero zero x apart = absurd (apart refl)
  set_other (y ∷ xs) zero (suc i) x apart = refl
  set_other (y ∷ xs) (suc k) zero x apart = refl
  set_other (y ∷ xs) (suc k) (suc i) x apart = set_other xs k i x (λ e. apart (ap suc e))

  set_same : (xs ys : List A) (k i : ℕ) (x : A) → slice_get xs i ≡ slice_get ys i → slice_get (set xs k x) i ≡ slice_get (set ys k x) i
  set_same [] [] k i x h = refl
  set_same [] (y ∷ ys) k zero x h = cc
  set_same [] (y ∷ ys) zero (suc i) x h = h
  set_same [] (y ∷ ys) (suc k) (suc i) x h = set_same [] ys k i x h
  set_same (y ∷ xs) [] k zero x h = cc
  set_same (y ∷ xs) [] zero (suc i) x h = h
  set_same (y ∷ xs) [] (suc k) (suc i) x h = set_same xs [] k i x h
  set_same (y ∷ xs) (z ∷ ys) zero zero x h = refl
  set_same (y ∷ xs) (z ∷ ys) (suc k) zero x h = h
  set_same (y ∷ xs) (z ∷ ys) zero (suc i) x h = h
  set_same (y ∷ xs) (z ∷ ys) (suc k) (suc i) x h = set_same xs ys k i x h

-- the same bytes over others
pub overlay_same : (new xs ys : List ℕ) (from i : ℕ) → slice_get xs i ≡ slice_get ys i → slice_get (overlay from new xs) i ≡ slice_get (overlay from new ys) i
overlay_same [] xs ys from i h = ap (λ l. slice_get l i) (overlay_none from xs) ∙ h ∙ sym (ap (λ l. slice_get l i) (overlay_none from ys))
overlay_same (byte ∷ new) xs ys from i h =
    ap (λ l. slice_get l i) (sym (overlay_next from byte new xs))
    ∙ overlay_same new (set xs from byte) (set ys from byte) (suc from) i (set_same xs ys from i byte h)
    ∙ ap (λ l. slice_get l i) (overlay_next from byte new ys)

-- bytes elsewhere
pub overlay_other : (new xs : List ℕ) (from i : ℕ) → (i < from) ⊎ (from + length new ≤ i) → slice_get (overlay from new xs) i ≡ slice_get xs i
overlay_other [] xs from i apart = ap (λ l. slice_get l i) (overlay_none from xs)
overlay_other (byte ∷ new) xs from i (inl lt) =
    ap (λ l. slice_get l i) (sym (overlay_next from byte new xs)) ∙ overlay_other new (set xs from byte) (suc from) i (inl (omega arith))
    ∙ set_other xs from i byte (λ e. omega arith)
overlay_other (byte ∷ new) xs from i (inr le) =
    ap (λ l. slice_get l i) (sym (overlay_next from byte new xs)) ∙ overlay_other new (set xs from byte) (suc from) i (inr (omega arith))
    ∙ set_other xs from i byte (λ e. omega arith)
