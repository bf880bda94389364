-- What a program's graph lists.
use Rattle.std.specs.Prelude.{◌≡◌, ◌⊎◌, ◌<◌, ◌↔◌, ℕ, List}
use Rattle.std.specs.List.{AllPairs, Contains}
use Rattle.bl_program.specs.Sites.{IsLoad, Writes, Reads, SinkReads}
use Rattle.bl_program.specs.declared.definitions.ProgramParts.{ProgramParts as Program}
use Rattle.bl_graph.specs.declared.facts.Use.{Use}
use Rattle.bl_graph.specs.declared.facts.Graph.{Graph}

-- a position and a variable
abbrev pub use_of : ℕ → ℕ → Use
use_of position x = record { at = record { 0 = position }; var = record { 0 = x } }

-- one stands before another: at a lesser position, or at the same one with a lesser variable
abbrev pub Precedes : Use → Use → Type 0
Precedes one other = (one.at.0 < other.at.0) ⊎ ((one.at.0 ≡ other.at.0) × (one.var.0 < other.var.0))

-- a list has exactly the pairs of a relation, rising
pub record AreUses (Relates : ℕ → ℕ → Type 0) (uses : List Use) : Type 0 where
  pub each : (position x : ℕ) → Contains uses (use_of position x) ↔ Relates position x
  pub rise : AllPairs Precedes uses

-- the graph is the program's
pub record IsGraph (program : Program) (graph : Graph) : Type 0 where
  pub loads : (s : ℕ) → Contains graph.loads (record { 0 = s }) ↔ IsLoad program s
  pub loads_rise : AllPairs (λ one other. one.0 < other.0) graph.loads
  pub writes : AreUses (Writes program) graph.writes
  pub reads : AreUses (Reads program) graph.reads
  pub sinks : AreUses (SinkReads program) graph.sinks
