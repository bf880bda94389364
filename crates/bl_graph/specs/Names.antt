-- The variables that commands name, and their places among these.
use Rattle.std.specs.Prelude.{◌<◌, ◌⊎◌, ℕ, suc, nat_eq, if◌then◌else◌, List, [], ◌∷◌, Contains}
use Rattle.std.specs.List.{All, AllPairs, range_with_len}
use Rattle.bl_program.specs.Sites.{Writes, Reads, SinkReads}
use Rattle.bl_program.specs.declared.definitions.ProgramParts.{ProgramParts as Program}
use Rattle.bl_graph.specs.Graphs.{use_of}
use Rattle.bl_graph.specs.Ranges.{variables}
use Rattle.bl_graph.specs.declared.facts.Graph.{Graph}
use Rattle.bl_graph.specs.declared.facts.Use.{Use}
use Rattle.bl_graph.specs.declared.names.Kept.{Kept}
use Rattle.bl_graph.specs.declared.names.Kept.TheVariants as kept

-- the variables that are kept
abbrev pub kept_in : Kept → List ℕ
kept_in (kept.All count) = range_with_len 0 count
kept_in (kept.Listed names) = names.items

-- rising variables of a program, each that a command names among them
pub record AreNames (program : Program) (names : List ℕ) : Type 0 where
  pub rise : AllPairs (λ x y. x < y) names
  pub small : All (λ x. x < variables program) names
  pub writes : (s x : ℕ) → Writes program s x → Contains names x
  pub reads : (s x : ℕ) → Reads program s x → Contains names x
  pub sinks : (position x : ℕ) → SinkReads program position x → Contains names x

-- some use of these is of the variable
abbrev pub IsUsed : List Use → ℕ → Type 0
IsUsed uses x = (s : ℕ) × Contains uses (use_of s x)

-- a command of the graph writes or reads the variable, or a sink reads it, or it is one of further ones
abbrev pub IsNamed : Graph → List ℕ → ℕ → Type 0
IsNamed graph more x = IsUsed graph.writes x ⊎ (IsUsed graph.reads x ⊎ (IsUsed graph.sinks x ⊎ Contains more x))

abbrev pub var_of : Use → ℕ
var_of u = u.var.0

-- the first place of a number
abbrev pub place_of : List ℕ → ℕ → ℕ
place_of [] x = 0
place_of (y ∷ ys) x = if nat_eq y x then 0 else suc (place_of ys x)

-- a use of the place of its variable
abbrev pub numbered : List ℕ → Use → Use
numbered names u = use_of u.at.0 (place_of names u.var.0)
