-- What parts are given, as numbers, and what a set of parts is given.
use Rattle.std.specs.Prelude.{◌≡◌, ℕ, ◌+◌, ◌<◌, Bool, List, length, slice_index}
use Rattle.bl_base.specs.Sums.{sum_below}
use Rattle.bl_flow.specs.Flows.{amount_if}

-- the numbers of a set's parts together
abbrev pub worth : List ℕ → (ℕ → Bool) → ℕ
worth numbers set = sum_below (length numbers) (λ p. amount_if (set p) (slice_index numbers p))

-- one number is greater by so much
pub record IsAdded (old new : List ℕ) (place amount : ℕ) : Type 0 where
  pub places : length new ≡ length old
  pub inside : place < length old
  pub here_ : slice_index new place ≡ slice_index old place + amount
  pub others : (p : ℕ) → (p ≡ place → ⊥) → slice_index new p ≡ slice_index old p
