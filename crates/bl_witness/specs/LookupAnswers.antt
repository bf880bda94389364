-- What the check looks up, and what it sums.
use Rattle.std.specs.Prelude.{◌≡◌, ◌<◌, ◌≤◌, ℕ, List, [], ◌∷◌, length, Option, Some, None, take, slice_get, slice_index}
use Rattle.std.specs.List.{AllPairs, Contains}
use Rattle.bl_base.specs.declared.number.Var.{Var}
use Rattle.bl_program.specs.Sites.{is_protected, site_weight}
use Rattle.bl_program.specs.declared.definitions.ProgramParts.{ProgramParts as Program}
use Rattle.bl_graph.specs.Certificates.{IsFlowPath}
use Rattle.bl_graph.specs.Graphs.{Precedes, use_of}
use Rattle.bl_graph.specs.declared.certificate.FlowPath.{FlowPath}
use Rattle.bl_graph.specs.declared.facts.Graph.{Graph}
use Rattle.bl_graph.specs.declared.facts.Use.{Use}
use Rattle.bl_witness.specs.Verdicts.{ArePaths, BreaksPath}

-- ---- places in rising lists

-- exactly the uses before the place stand before that one
pub record IsPlaceOf (uses : List Use) (one : Use) (place : ℕ) : Type 0 where
  pub before : (k : ℕ) (u : Use) → k < place → slice_get uses k ≡ Some u → Precedes u one
  pub behind : (k : ℕ) (u : Use) → place ≤ k → slice_get uses k ≡ Some u → Precedes u one → ⊥

-- what is written at a position, where something is
abbrev pub IsWritten : List Use → ℕ → Option Var → Type 0
IsWritten writes position (Some var) = Contains writes (use_of position var.0)
IsWritten writes position None = (x : ℕ) → Contains writes (use_of position x) → ⊥

-- ---- links of a chain

-- one position writes what is used at another
abbrev pub IsLinked : List Use → List Use → ℕ → ℕ → Type 0
IsLinked writes uses former position = (x : ℕ) × Contains writes (use_of former x) × Contains uses (use_of position x)

-- from a site on, each site in this order reads what the former wrote, and the sink what the last wrote
abbrev pub LeadsToSink : Graph → ℕ → List ℕ → ℕ → Type 0
LeadsToSink graph s [] sink = IsLinked graph.writes graph.sinks s sink
LeadsToSink graph s (t ∷ rest) sink = IsLinked graph.writes graph.reads s t × LeadsToSink graph t rest sink

-- a graph's lists rise, and no position writes two variables
pub record IsOrdered (graph : Graph) : Type 0 where
  pub writes : AllPairs Precedes graph.writes
  pub reads : AllPairs Precedes graph.reads
  pub sinks : AllPairs Precedes graph.sinks
  pub one : (s x y : ℕ) → Contains graph.writes (use_of s x) → Contains graph.writes (use_of s y) → x ≡ y

-- ---- rules that are broken

-- the first of rules 1 to 3 that a path breaks, where it breaks one
abbrev pub JudgesPath : Program → FlowPath → Option ℕ → Type 0
JudgesPath program path None = IsFlowPath program (is_protected program) path
JudgesPath program path (Some rule) = BreaksPath program path rule

-- the first path that breaks one of rules 1 to 3, and that rule, where one does
abbrev pub JudgesPaths : Program → List FlowPath → Option (ℕ × ℕ) → Type 0
JudgesPaths program paths None = ArePaths program paths
JudgesPaths program paths (Some found) =
    (path : FlowPath) × (slice_get paths found.1 ≡ Some path) × ArePaths program (take found.1 paths) × BreaksPath program path found.0

-- the first site with more flow than its weight, where there is one
abbrev pub JudgesLoads : Program → List ℕ → Option ℕ → Type 0
JudgesLoads program loads None = (s w : ℕ) → s < length loads → site_weight program s ≡ Some w → slice_index loads s ≤ w
JudgesLoads program loads (Some position) =
    ((s w : ℕ) → s < position → site_weight program s ≡ Some w → slice_index loads s ≤ w)
    × ((w : ℕ) × (site_weight program position ≡ Some w) × (w < slice_index loads position))
