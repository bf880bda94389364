-- What reading on takes of a file, where the bytes that it has left are known.
use Rattle.std.specs.Prelude.{◌≡◌, ℕ, Bool, true, false, ◌<◌, List, Option, Some, None, length, take, drop}
use Rattle.std.specs.Io.KnownBytes.{Consumes, IsAtEnd}

-- these were the next bytes, and all that were left where they are fewer than were wanted
pub record ReadsOn (old new : Option (List ℕ)) (most : ℕ) (bytes : List ℕ) : Type 0 where
  pub next : Consumes old new bytes
  pub whole : length bytes < most → IsAtEnd new

-- so many bytes were passed
pub record Passes (old new : Option (List ℕ)) (count : ℕ) : Type 0 where
  pub bytes : List ℕ
  pub next : Consumes old new bytes
  pub many : length bytes ≡ count

-- so many bytes were passed, or all that were left, which are fewer
abbrev pub Skips : Option (List ℕ) → Option (List ℕ) → ℕ → Bool → Type 0
Skips old new count true = Passes old new count
Skips old new count false = IsAtEnd new × ((passed : ℕ) × Passes old new passed × (passed < count))

-- the bytes of a file from a place on, at most so many; nothing is said where the file's bytes aren't known
abbrev pub GivesFrom : Option (List ℕ) → ℕ → ℕ → List ℕ → Type 0
GivesFrom None from most bytes = Unit {0}
GivesFrom (Some all) from most bytes = take most (drop from all) ≡ bytes

-- a file has fewer bytes; nothing is said where they aren't known
abbrev pub IsShorter : Option (List ℕ) → ℕ → Type 0
IsShorter None count = Unit {0}
IsShorter (Some all) count = length all < count

-- these are the bytes of a file as it was opened, from a place on, at most so many. `left` says which bytes a file has left
pub record IsRead {F : Type 0} (left : F → Option (List ℕ)) (from most : ℕ) (bytes : List ℕ) : Type 0 where
  pub begun : F
  pub gives : GivesFrom (left begun) from most bytes

-- so many bytes were passed of a file since it was opened
pub record IsBehind {F : Type 0} (left : F → Option (List ℕ)) (place : ℕ) (file : F) : Type 0 where
  pub begun : F
  pub passed : Passes (left begun) (left file) place

-- a file that was opened has fewer bytes
pub record EndsBefore {F : Type 0} (left : F → Option (List ℕ)) (place : ℕ) : Type 0 where
  pub begun : F
  pub shorter : IsShorter (left begun) place

-- a file behind so many of its bytes; none where it has fewer
abbrev pub IsOpenedAt : {F : Type 0} → (F → Option (List ℕ)) → ℕ → Option F → Type 0
IsOpenedAt left place (Some file) = IsBehind left place file
IsOpenedAt left place None = EndsBefore left place
