-- The search for secret variables: each is found once, and how it was found stands in a queue.
use Rattle.std.specs.Prelude.{◌≡◌, ◌↔◌, ℕ, ◌+◌, ◌<◌, ◌≤◌, ◌⊎◌, Bool, List, [], ◌++◌, AllPairs, Option, Some, None, is_some, Contains, length, nat_eq, slice_get, slice_index_or, IsTrue}
use Rattle.std.specs.List.{list_any}
use Rattle.bl_program.specs.Sites.{Writes, Reads}
use Rattle.bl_program.specs.declared.definitions.ProgramParts.{ProgramParts as Program}
use Rattle.bl_graph.specs.Arcs.{is_in, unmarked}
use Rattle.bl_graph.specs.Graphs.{use_of}
use Rattle.bl_graph.specs.Names.{place_of}
use Rattle.bl_graph.specs.declared.arcs.Arc.{Arc}
use Rattle.bl_graph.specs.declared.facts.Use.{Use}
use Rattle.bl_graph.specs.declared.secret.Origin.{Origin}
use Rattle.bl_ct.specs.declared.search.Step.{Step}
use Rattle.bl_ct.specs.declared.search.Cause.{Cause}
use Rattle.bl_ct.specs.declared.search.Cause.TheVariants.{Declared, Loaded, Moved}
use Rattle.bl_graph.specs.Secrets.{Declares, LoadsSecret, Demands}
use Rattle.bl_graph.specs.Labels.{Secret}
use Rattle.bl_graph.specs.SecretChains.{Ends, LeadsToEnd}

-- ---- tables

-- a table over rising names, with an entry at the place of each
pub record IsTable {A : Type 0} (names : List ℕ) (table : List A) : Type 0 where
  pub rise : AllPairs (λ x y. x < y) names
  pub places : length table ≡ length names

-- the mark of a variable in a table of marks; none where it isn't one of the names
abbrev pub mark_of : List ℕ → List Bool → ℕ → Bool
mark_of names marks x = is_in marks (place_of names x)

-- a read as an arc, from the place of the variable to the site
abbrev pub from_name : List ℕ → Use → Arc
from_name names r = record { from = place_of names r.var.0; to = r.at.0 }

-- an entry of a table, if there is one
abbrev pub entry_at : List (Option ℕ) → ℕ → Option ℕ
entry_at entries place = slice_index_or entries place None

-- the entry of a variable, if it is one of the names and there is one
abbrev pub entry_of : List ℕ → List (Option ℕ) → ℕ → Option ℕ
entry_of names entries x = entry_at entries (place_of names x)

-- ---- the search

-- a queue has a step at a place
abbrev pub Has : List Step → ℕ → Step → Type 0
Has queue place step = slice_get queue place ≡ Some step

-- how a variable was found is right
abbrev pub IsJustifiedBy : Program → List Step → ℕ → ℕ → Cause → Type 0
IsJustifiedBy program queue place x (Declared origin) = Declares program x origin
IsJustifiedBy program queue place x (Loaded s memory) = LoadsSecret program s memory × Writes program s x
IsJustifiedBy program queue place x (Moved s before) =
    (before < place) × ((former : Step) × Has queue before former × Reads program s former.var × Writes program s x)

abbrev pub AreJustified : Program → List Step → Type 0
AreJustified program queue = (place : ℕ) (step : Step) → Has queue place step → IsJustifiedBy program queue place step.var step.cause

-- what some element of a list asks or lets through
abbrev pub Some_fits : {A : Type 0} → List A → (A → Step → Type 0) → Step → Type 0
Some_fits {A} xs fits step = (x : A) × Contains xs x × fits x step

abbrev pub Some_asks : {A : Type 0} → List A → (A → ℕ → Type 0) → ℕ → Type 0
Some_asks {A} xs asks v = (x : A) × Contains xs x × asks x v

-- a step of that variable, found by one cause
abbrev pub IsFoundBy : Option ℕ → Cause → Step → Type 0
IsFoundBy var cause step = (var ≡ Some step.var) × (step.cause ≡ cause)

-- all variables that are asked for are marked, and those that were not are queued, each as it may be
pub record Visits (names : List ℕ) (fits : Step → Type 0) (asks : ℕ → Type 0) (old new : List Bool) (queue more : List Step) : Type 0 where
  pub added : List Step
  pub front : more ≡ queue ++ added
  pub places : length new ≡ length old
  pub kept : (v : ℕ) → IsTrue (mark_of names old v) → IsTrue (mark_of names new v)
  pub taken : (v : ℕ) → asks v → IsTrue (mark_of names new v)
  pub from : (v : ℕ) → IsTrue (mark_of names new v) → IsTrue (mark_of names old v) ⊎ ((step : Step) × Contains added step × (step.var ≡ v))
  pub marked : (step : Step) → Contains added step → IsTrue (mark_of names new step.var)
  pub causes : (step : Step) → Contains added step → fits step
  pub counts : unmarked new + length more ≡ unmarked old + length queue

-- a search on its way: what the steps before a place lead to is marked
pub record SearchState (program : Program) (names : List ℕ) (marks : List Bool) (queue : List Step) (next : ℕ) : Type 0 where
  pub places : length marks ≡ length names
  pub in_order : next ≤ length queue
  pub declared : (x : ℕ) (origin : Origin) → Declares program x origin → IsTrue (mark_of names marks x)
  pub loaded : (s memory x : ℕ) → LoadsSecret program s memory → Writes program s x → IsTrue (mark_of names marks x)
  pub queued : (step : Step) → Contains queue step → IsTrue (mark_of names marks step.var)
  pub back : (v : ℕ) → IsTrue (mark_of names marks v) → (step : Step) × Contains queue step × (step.var ≡ v)
  pub done : (place : ℕ) (step : Step) → place < next → Has queue place step → (s y : ℕ)
      → Reads program s step.var → Writes program s y → IsTrue (mark_of names marks y)
  pub sound : AreJustified program queue

-- whether some step found the variable
abbrev pub is_found : List Step → ℕ → Bool
is_found steps x = list_any (λ step. nat_eq step.var x) steps

-- a whole search
pub record Searched (program : Program) (queue : List Step) : Type 0 where
  pub exact : (x : ℕ) → IsTrue (is_found queue x) ↔ Secret program x
  pub sound : AreJustified program queue

-- ---- where variables may not be secret

-- one of these uses is noted at each variable that has one
pub record IsNoted (names : List ℕ) (uses : List Use) (old new : List (Option ℕ)) : Type 0 where
  pub places : length new ≡ length old
  pub sound : (x e : ℕ) → entry_of names new x ≡ Some e → (entry_of names old x ≡ Some e) ⊎ Contains uses (use_of e x)
  pub kept : (x : ℕ) → IsTrue (is_some (entry_of names old x)) → IsTrue (is_some (entry_of names new x))
  pub full : (x e : ℕ) → Contains uses (use_of e x) → IsTrue (is_some (entry_of names new x))

-- for each name an end, if it has one
pub record AreEnds (program : Program) (names : List ℕ) (ends : List (Option ℕ)) : Type 0 where
  pub places : length ends ≡ length names
  pub sound : (x e : ℕ) → entry_of names ends x ≡ Some e → Ends program x e
  pub full : (x e : ℕ) → Ends program x e → IsTrue (is_some (entry_of names ends x))

-- a step whose variable may not be secret
abbrev pub IsLeak : Program → Step → ℕ → Type 0
IsLeak program step end = Ends program step.var end ⊎ ((memory : ℕ) × (step.cause ≡ Loaded end memory) × Demands program step.var)

-- the way from a step on
abbrev pub LeadsOn : Program → Step → List ℕ → ℕ → Type 0
LeadsOn program step rest end =
    LeadsToEnd program step.var rest end ⊎ ((rest ≡ []) × ((memory : ℕ) × (step.cause ≡ Loaded end memory) × Demands program step.var))

-- for each position whether it writes a marked variable
abbrev pub MarksWriters : List Use → List ℕ → List Bool → List Bool → Type 0
MarksWriters writes names demanded giving =
    (s : ℕ) → IsTrue (is_in giving s) ↔ ((y : ℕ) × Contains writes (use_of s y) × IsTrue (mark_of names demanded y))

-- the uses at marked positions
abbrev pub KeptAt : List Use → List Bool → List Use → Type 0
KeptAt uses marks kept = (u : Use) → Contains kept u ↔ (Contains uses u × IsTrue (is_in marks u.at.0))
