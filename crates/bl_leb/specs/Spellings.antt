-- Where a spelling stands, and which one is the shortest; a grammar says which bytes spell which value.
use Rattle.std.specs.Prelude.{◌≡◌, ℕ, ◌≤◌, List, ◌++◌, length, slice_range}

-- the bytes from a place to another are a spelling of the value
pub record IsSpelledAt {A : Type 0} (Spells : List ℕ → A → Type 0) (bytes : List ℕ) (start end : ℕ) (value : A) : Type 0 where
  pub forward : start ≤ end
  pub inside : end ≤ length bytes
  pub spelled : Spells (slice_range bytes start end) value

-- of the spellings of the value none is shorter
pub record IsShortest {A : Type 0} (Spells : List ℕ → A → Type 0) (bytes : List ℕ) (value : A) : Type 0 where
  pub spelled : Spells bytes value
  pub least : (other : List ℕ) → Spells other value → length bytes ≤ length other

-- the new bytes are the old ones and then a spelling of the value
pub record Appends {A : Type 0} (Spells : List ℕ → A → Type 0) (old new : List ℕ) (value : A) : Type 0 where
  pub bytes : List ℕ
  pub spelled : Spells bytes value
  pub appended : new ≡ old ++ bytes
