-- The first item of a list that is taken from it.
use Rattle.std.specs.Prelude.{◌≡◌, ℕ, List, [], ◌∷◌, Option, Some, None}

-- a list from which the first item was taken, where it has one
abbrev pub Taken : Option ℕ → List ℕ → List ℕ → Type 0
Taken None old new = (old ≡ []) × (new ≡ [])
Taken (Some first) old new = old ≡ first ∷ new
