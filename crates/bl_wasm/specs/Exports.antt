-- Values by names, in order, as pairs: so are the numbers of the exported functions of a linked tree.
use Rattle.std.specs.Prelude.{◌≡◌, ℕ, List, [], ◌∷◌, Option, Some, None, if◌then◌else◌, map, slice_get, Vec}
use Rattle.std.specs.Str.{bytes_eq}
use Rattle.std.specs.declared.alloc.Global.{Global}

-- each name with its value
abbrev pub PairsOf : Type 0 → Type 0
PairsOf T = List (List ℕ × T)

-- each name with a number
abbrev pub Pairs : Type 0
Pairs = PairsOf ℕ

-- the pairs by the bytes of their names
abbrev pub pairs_of : {T : Type 0} → List (Vec ℕ Global × T) → PairsOf T
pairs_of entries = map (λ entry. (entry.0.items, entry.1)) entries

-- the value of the first pair of that name, where there is one
abbrev pub value_named : {T : Type 0} → List ℕ → PairsOf T → Option T
value_named name [] = None
value_named name (pair ∷ pairs) = if bytes_eq name pair.0 then Some pair.1 else value_named name pairs

-- no two pairs have one name
abbrev pub AreDistinct : {T : Type 0} → PairsOf T → Type 0
AreDistinct {T = T} pairs =
    (i j : ℕ) (a b : List ℕ × T) → slice_get pairs i ≡ Some a → slice_get pairs j ≡ Some b → a.0 ≡ b.0 → i ≡ j
