-- What a list of roots reaches by rows, and a search for it.
use Rattle.std.specs.Prelude.{◌≡◌, ℕ, ◌+◌, ◌<◌, ◌≤◌, ◌⊎◌, Bool, true, false, List, [], ◌∷◌, ◌++◌, length, slice_index, IsTrue, min, Option, Some, None, if◌then◌else◌}
use Rattle.std.specs.List.{Contains}
use Rattle.bl_base.specs.declared.names.Flow.{Flow}
use Rattle.bl_base.specs.declared.names.Flow.TheVariants.{Stable, Transient}
use Rattle.bl_base.specs.declared.number.Pos.{Pos}
use Rattle.bl_graph.specs.Arcs.{is_in, unmarked, row_at}
use Rattle.bl_graph.specs.Graphs.{use_of}
use Rattle.bl_graph.specs.WrittenVariables.{noted}
use Rattle.bl_graph.specs.declared.arcs.Arc.{Arc}
use Rattle.bl_graph.specs.declared.facts.Use.{Use}

-- a root, or what the row of something reached has
pub data Reached (rows : List (List ℕ)) (roots : List ℕ) : ℕ → Type 0 where
  root : (v : ℕ) → Contains roots v → Reached rows roots v
  step : (u v : ℕ) → Reached rows roots u → Contains (row_at rows u) v → Reached rows roots v

-- what a row has is marked and queued, where it wasn't marked
pub record IsVisited (row : List ℕ) (old new : List Bool) (queue more : List ℕ) : Type 0 where
  pub places : length new ≡ length old
  pub kept : (v : ℕ) → IsTrue (is_in old v) → IsTrue (is_in new v)
  pub taken : (v : ℕ) → Contains row v → IsTrue (is_in new v)
  pub from : (v : ℕ) → IsTrue (is_in new v) → IsTrue (is_in old v) ⊎ Contains row v
  pub front : (added : List ℕ) × (more ≡ queue ++ added)
  pub queued : ((v : ℕ) → Contains queue v → IsTrue (is_in old v)) → (v : ℕ) → Contains more v → IsTrue (is_in new v)
  pub back : ((v : ℕ) → IsTrue (is_in old v) → Contains queue v) → (v : ℕ) → IsTrue (is_in new v) → Contains more v
  pub counts : unmarked new + length more ≡ unmarked old + length queue

-- a search on its way: the rows of what is queued before a place are marked
pub record SearchState (rows : List (List ℕ)) (roots : List ℕ) (marks : List Bool) (queue : List ℕ) (next : ℕ) : Type 0 where
  pub places : length marks ≡ length rows
  pub in_order : next ≤ length queue
  pub begun : (v : ℕ) → Contains roots v → IsTrue (is_in marks v)
  pub queued : (v : ℕ) → Contains queue v → IsTrue (is_in marks v)
  pub back : (v : ℕ) → IsTrue (is_in marks v) → Contains queue v
  pub done : (place : ℕ) → place < next → (v : ℕ) → Contains (row_at rows (slice_index queue place)) v → IsTrue (is_in marks v)
  pub sound : (v : ℕ) → IsTrue (is_in marks v) → Reached rows roots v

-- the least position of a sink that reads a marked variable
pub record IsFirstOf (typing : ℕ → Type 0) (sinks : List Use) (position : ℕ) : Type 0 where
  pub var : ℕ
  pub sink : Contains sinks (use_of position var)
  pub transient : typing var
  pub least : (other x : ℕ) → Contains sinks (use_of other x) → typing x → position ≤ other

abbrev pub FirstSink : List Bool → List Use → Option ℕ → Type 0
FirstSink marks sinks None = (position x : ℕ) → Contains sinks (use_of position x) → IsTrue (is_in marks x) → ⊥
FirstSink marks sinks (Some position) = IsFirstOf (λ x. IsTrue (is_in marks x)) sinks position

-- the lower of two positions, where there is a first one
abbrev pub IsLower : Option ℕ → ℕ → ℕ → Type 0
IsLower None position result = result ≡ position
IsLower (Some first) position result = result ≡ min first position

-- ---- from a graph's lists to roots and moves

-- the variable, where there is one
abbrev pub listed : Option ℕ → List ℕ
listed None = []
listed (Some x) = x ∷ []

-- the move from a variable, where there is one
abbrev pub moved_to : ℕ → Option ℕ → List Arc
moved_to x None = []
moved_to x (Some y) = record { from = x; to = y } ∷ []

-- what the loads that aren't protected write
abbrev pub roots_from : List (Option ℕ) → List Pos → List ℕ
roots_from written [] = []
roots_from written (load ∷ loads) = listed (noted written load.0) ++ roots_from written loads

-- from what the sites that aren't protected read to what they write
abbrev pub moves_from : List (Option ℕ) → List Use → List Arc
moves_from written [] = []
moves_from written (read ∷ reads) = moved_to read.var.0 (noted written read.at.0) ++ moves_from written reads

-- one of these variables, or what a load writes, or what a site writes that reads such a one, where so is noted what sites write
pub data Spread (written : List (Option ℕ)) (transient : List ℕ) (loads : List Pos) (reads : List Use) : ℕ → Type 0 where
  begun : (x : ℕ) → Contains transient x → Spread written transient loads reads x
  filled : (s x : ℕ) → Contains loads (record { 0 = s }) → noted written s ≡ Some x → Spread written transient loads reads x
  led : (s x y : ℕ) → Contains reads (use_of s x) → noted written s ≡ Some y → Spread written transient loads reads x → Spread written transient loads reads y

-- the flow type of a mark
abbrev pub flow_type : Bool → Flow
flow_type mark = if mark then Transient else Stable

-- ---- what may not be read, and not be written by loads

-- the marked variable that is noted for a position
abbrev pub kept_if : Bool → ℕ → Option ℕ
kept_if true x = Some x
kept_if false x = None

abbrev pub stable_one : List Bool → Option ℕ → Option ℕ
stable_one stable None = None
stable_one stable (Some x) = kept_if (is_in stable x) x

abbrev pub stable_noted : List (Option ℕ) → List Bool → ℕ → Option ℕ
stable_noted written stable s = stable_one stable (noted written s)

-- a read, where its site writes such a variable
abbrev pub noted_read : Use → Option ℕ → List Use
noted_read read None = []
noted_read read (Some x) = read ∷ []

-- a load with what it writes, where it is such a variable
abbrev pub noted_load : ℕ → Option ℕ → List Use
noted_load s None = []
noted_load s (Some x) = use_of s x ∷ []

-- the reads of the sites that write a marked variable
abbrev pub stable_reads : List (Option ℕ) → List Bool → List Use → List Use
stable_reads written stable [] = []
stable_reads written stable (read ∷ reads) = noted_read read (stable_noted written stable read.at.0) ++ stable_reads written stable reads

-- the loads that write one, each with it
abbrev pub stable_loads : List (Option ℕ) → List Bool → List Pos → List Use
stable_loads written stable [] = []
stable_loads written stable (load ∷ loads) = noted_load load.0 (stable_noted written stable load.0) ++ stable_loads written stable loads
