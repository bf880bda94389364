-- Files of which each line says one thing.
use Rattle.std.specs.Prelude.{◌≡◌, ℕ, ◌+◌, List, [], ◌∷◌, ◌++◌, length, map, Option, Some, None, Result, Ok, Err}

-- what a line says before that of other lines; a bad line's number counts its line too
abbrev pub item_before : {A : Type 0} → A → Result (List A) ℕ → Result (List A) ℕ
item_before item (Ok items) = Ok (item ∷ items)
item_before item (Err number) = Err (number + 1)

-- what lines say, one by one; else the number of the first one that says nothing, from 1
abbrev pub items_of : {A : Type 0} → (List ℕ → Option A) → List (List ℕ) → Result (List A) ℕ
items_of says [] = Ok []
items_of says (line ∷ lines) =
    elim (says line) [
      | Some item ↦ item_before item (items_of says lines)
      | None ↦ Err 1
    ]

-- what lines tell: each says something; or those before one do, and that one says nothing
pub data TellItems {A : Type 0} (says : List ℕ → Option A) (lines : List (List ℕ)) : Result (List A) ℕ → Type 0 where
  all_say : (items : List A) → map says lines ≡ map Some items → TellItems says lines (Ok items)
  bad_line : (before : List (List ℕ)) (line : List ℕ) (behind : List (List ℕ)) (items : List A) → lines ≡ before ++ line ∷ behind
      → map says before ≡ map Some items → says line ≡ None → TellItems says lines (Err (length before + 1))
