-- The network of a program over names: a node for each position, and behind them one without weight for each name; also where
-- something is asked of variables.
use Rattle.std.specs.Prelude.{◌≡◌, ◌⊎◌, ◌↔◌, ◌+◌, ℕ, IsTrue, length, List, Option, None, map, slice_get, unwrap_or}
use Rattle.bl_base.specs.declared.number.Pos.{Pos}
use Rattle.std.specs.List.{Contains}
use Rattle.bl_program.specs.Sites.{IsLoad, Writes, Reads, SinkReads, site_weight}
use Rattle.bl_program.specs.declared.definitions.ProgramParts.{ProgramParts as Program}
use Rattle.bl_flow.specs.Networks.{size, weight_at, HasArc}
use Rattle.bl_flow.specs.declared.network.Arc.{Arc}
use Rattle.bl_flow.specs.declared.network.Network.{Network}
use Rattle.bl_graph.specs.Names.{AreNames, place_of}
use Rattle.bl_graph.specs.Ranges.{commands}
use Rattle.bl_graph.specs.Graphs.{use_of}
use Rattle.bl_graph.specs.declared.facts.Graph.{Graph}
use Rattle.bl_graph.specs.declared.facts.Use.{Use}
use Rattle.bl_transient.specs.Transient.{Asked, nothing}

-- the node of a variable
abbrev pub node_of : Program → List ℕ → ℕ → ℕ
node_of program names x = commands program + place_of names x

-- an arc leads from a site to what it writes, and from a variable to a site that reads it
pub data ArcKind (program : Program) (names : List ℕ) (u v : ℕ) : Type 0 where
  write : (x : ℕ) → Writes program u x → v ≡ node_of program names x → ArcKind program names u v
  read : (x : ℕ) → Reads program v x → u ≡ node_of program names x → ArcKind program names u v

-- a node is that of a variable that is asked to be transient
abbrev pub IsAskedNode : Asked → Program → List ℕ → ℕ → Type 0
IsAskedNode asked program names v = (x : ℕ) × (v ≡ node_of program names x) × Contains names x × IsTrue (asked.transient x)

-- a site reads a variable that is asked to be transient
abbrev pub ReadsAsked : Asked → Program → ℕ → Type 0
ReadsAsked asked program s = (x : ℕ) × Reads program s x × IsTrue (asked.transient x)

-- a site at which walks begin: a load, or a site that reads what is asked to be transient
abbrev pub IsFirstSite : Asked → Program → ℕ → Type 0
IsFirstSite asked program s = IsLoad program s ⊎ ReadsAsked asked program s

-- a variable may not be transient: a sink reads it, or it is asked to be stable
abbrev pub IsBarred : Asked → Program → ℕ → Type 0
IsBarred asked program x = ((position : ℕ) × SinkReads program position x) ⊎ IsTrue (asked.stable x)

-- a node is that of a named variable that may not be transient
abbrev pub IsEndUnder : Asked → Program → List ℕ → ℕ → Type 0
IsEndUnder asked program names v = (x : ℕ) × (v ≡ node_of program names x) × Contains names x × IsBarred asked program x

-- walks begin at the loads, at what is asked to be transient and at the sites that read it, and end at what may not be transient
pub record IsNetworkUnder (asked : Asked) (program : Program) (names : List ℕ) (n : Network) : Type 0 where
  pub named : AreNames program names
  pub transient_named : (x : ℕ) → IsTrue (asked.transient x) → Contains names x
  pub stable_named : (x : ℕ) → IsTrue (asked.stable x) → Contains names x
  pub size_is : size n ≡ commands program + length names
  pub weights : (v : ℕ) → weight_at n v ≡ site_weight program v
  pub arcs : (u v : ℕ) → HasArc n u v ↔ ArcKind program names u v
  pub starts : (s : ℕ) → Contains n.starts s ↔ (IsFirstSite asked program s ⊎ IsAskedNode asked program names s)
  pub ends : (v : ℕ) → Contains n.ends v ↔ IsEndUnder asked program names v

-- the same where nothing is asked
abbrev pub IsNetwork : Program → List ℕ → Network → Type 0
IsNetwork = IsNetworkUnder nothing

-- ---- its lists

-- from a site to what it writes
abbrev pub write_arc : List ℕ → ℕ → Use → Arc
write_arc names n w = record { from = w.at.0; to = n + place_of names w.var.0 }

-- from a variable to a site that reads it
abbrev pub read_arc : List ℕ → ℕ → Use → Arc
read_arc names n r = record { from = n + place_of names r.var.0; to = r.at.0 }

-- a variable
abbrev pub var_node : List ℕ → ℕ → ℕ → ℕ
var_node names n x = n + place_of names x

-- the variable that a sink reads
abbrev pub sink_node : List ℕ → ℕ → Use → ℕ
sink_node names n sink = n + place_of names sink.var.0

-- a site there reads one of these variables
abbrev pub ReadsOne : List Use → List ℕ → ℕ → Type 0
ReadsOne reads vars s = (x : ℕ) × Contains reads (use_of s x) × Contains vars x

-- nodes, and behind them the sites that read one of these variables
abbrev pub AreReaders : List ℕ → List Use → List ℕ → List ℕ → Type 0
AreReaders old reads vars nodes = (s : ℕ) → Contains nodes s ↔ (Contains old s ⊎ ReadsOne reads vars s)

-- a node at which walks begin, by a graph's lists: that of a load, of a site that reads one of these variables, or of one of these
abbrev pub Begins : List ℕ → ℕ → Graph → List ℕ → ℕ → Type 0
Begins names n g vars s = (Contains (map (λ (load : Pos). load.0) g.loads) s ⊎ ReadsOne g.reads vars s) ⊎ Contains (map (var_node names n) vars) s

-- the weight that is noted for a node
abbrev pub noted : List (Option ℕ) → ℕ → Option ℕ
noted weights v = unwrap_or (slice_get weights v) None
