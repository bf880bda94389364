-- What grammars are made of: each part has its spellings, and the spelling of a whole is the spellings of its parts, one after another.
use Rattle.std.specs.Prelude.{◌≡◌, ℕ, ◌++◌, List, [], ◌∷◌}

infixr 60 ◌⨾◌
-- which sequences of bytes spell something
abbrev pub Spellings : Type 1
Spellings = List ℕ → Type 0

-- no bytes
abbrev pub nothing : Spellings
nothing bytes = bytes ≡ []

-- these bytes and no others
abbrev pub exactly : List ℕ → Spellings
exactly these bytes = bytes ≡ these

-- one byte
abbrev pub byte : ℕ → Spellings
byte n = exactly (n ∷ [])

-- a spelling of the first, and then one of the second
pub record ◌⨾◌ (First Second : Spellings) (bytes : List ℕ) : Type 0 where
  pub front : List ℕ
  pub rest : List ℕ
  pub whole : bytes ≡ front ++ rest
  pub first : First front
  pub second : Second rest

-- where a condition holds
abbrev pub given : Type 0 → Spellings → Spellings
given Condition Spelled bytes = Condition × Spelled bytes
