-- Lists of uses on their way: those of the positions below one, and what one position adds.
use Rattle.std.specs.Prelude.{◌≡◌, ◌⊎◌, ◌↔◌, ◌<◌, ◌≤◌, ℕ, List, [], ◌∷◌, ◌++◌, map, Option, Some, None, min, IsSomeAnd, slice_get}
use Rattle.std.specs.List.{AllPairs, Contains}
use Rattle.bl_base.specs.declared.number.Pos.{Pos}
use Rattle.bl_program.specs.Sites.{Among, Loads}
use Rattle.bl_program.specs.declared.command.Command.{Command}
use Rattle.bl_program.specs.declared.command.Operand.{Operand}
use Rattle.bl_graph.specs.Graphs.{use_of, Precedes}
use Rattle.bl_graph.specs.declared.facts.Use.{Use}

-- exactly the pairs of a relation whose position is below that one, rising
pub record AreBelow (Relates : ℕ → ℕ → Type 0) (bound : ℕ) (uses : List Use) : Type 0 where
  pub each : (position x : ℕ) → Contains uses (use_of position x) ↔ ((position < bound) × Relates position x)
  pub rise : AllPairs Precedes uses

-- exactly the positions with a property below that one, rising
pub record ArePlacesBelow (Has : ℕ → Type 0) (bound : ℕ) (places : List Pos) : Type 0 where
  pub each : (s : ℕ) → Contains places (record { 0 = s }) ↔ ((s < bound) × Has s)
  pub rise : AllPairs (λ one other. one.0 < other.0) places

-- a position stands behind a list where a property holds, and nothing where it doesn't
abbrev pub AddsPlace : Type 0 → ℕ → List Pos → List Pos → Type 0
AddsPlace Holds position old new = (Holds × (new ≡ old ++ record { 0 = position } ∷ [])) ⊎ ((Holds → ⊥) × (new ≡ old))

-- behind a list stand the pairs of a position with the variables of a set, rising
pub record AddsRow (Has : ℕ → Type 0) (position : ℕ) (old new : List Use) : Type 0 where
  pub row : List ℕ
  pub is : new ≡ old ++ map (use_of position) row
  pub each : (x : ℕ) → Contains row x ↔ Has x
  pub rise : AllPairs (λ x y. x < y) row

-- the command at a position has an operand that is the variable
abbrev pub OperandAt : (Command → List Operand) → List Command → ℕ → ℕ → Type 0
OperandAt operands commands position x = IsSomeAnd (slice_get commands position) (λ command. Among (operands command) x)

-- a Load stands at a position
abbrev pub LoadAt : List Command → ℕ → Type 0
LoadAt commands position = IsSomeAnd (slice_get commands position) Loads

-- the least number of a set from a bound on, where there is one
abbrev pub IsLeastFrom : (ℕ → Type 0) → ℕ → Option ℕ → Type 0
IsLeastFrom Has bound None = (x : ℕ) → Has x → x < bound
IsLeastFrom Has bound (Some least) = Has least × (bound ≤ least) × ((x : ℕ) → Has x → bound ≤ x → least ≤ x)

-- the lesser of two numbers, where there are some
abbrev pub lower_of : Option ℕ → Option ℕ → Option ℕ
lower_of None other = other
lower_of (Some x) None = Some x
lower_of (Some x) (Some y) = Some (min x y)
