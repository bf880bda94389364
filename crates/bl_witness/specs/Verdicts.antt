-- The verdict on a certificate: it keeps its rules, or the first rule that is broken.
use Rattle.std.specs.Prelude.{◌≡◌, ◌<◌, ◌≤◌, ℕ, Bool, List, Some, take, slice_get, count_by, ⊤}
use Rattle.std.specs.List.{All}
use Rattle.bl_program.specs.Sites.{is_protected, site_weight, weight_of}
use Rattle.bl_program.specs.declared.definitions.ProgramParts.{ProgramParts as Program}
use Rattle.bl_graph.specs.Certificates.{Certifies, IsFlowPath, flow_of, flow_through, sites_of}
use Rattle.bl_graph.specs.Chains.{IsChain}
use Rattle.bl_graph.specs.Ranges.{AreSites}
use Rattle.bl_graph.specs.declared.certificate.FlowPath.{FlowPath}
use Rattle.bl_graph.specs.declared.certificate.Certificate.{Certificate}
use Rattle.bl_transient.specs.Transient.{Passes}
use Rattle.bl_witness.specs.declared.verdict.CertVerdict.{CertVerdict}
use Rattle.bl_witness.specs.declared.verdict.CertVerdict.TheVariants.{Yes, No}

-- a path breaks this rule, and keeps those before it
pub data BreaksPath (program : Program) (path : FlowPath) (rule : ℕ) : Type 0 where
  no_chain : rule ≡ 1 → (IsChain program (sites_of path) path.sink.0 → ⊥) → BreaksPath program path rule
  no_amount : rule ≡ 2 → IsChain program (sites_of path) path.sink.0 → path.amount ≡ 0 → BreaksPath program path rule
  not_once : rule ≡ 3 → IsChain program (sites_of path) path.sink.0 → 0 < path.amount
      → (count_by (is_protected program) (sites_of path) ≡ 1 → ⊥) → BreaksPath program path rule

-- the paths keep rules 1 to 3
abbrev pub ArePaths : Program → List FlowPath → Type 0
ArePaths program paths = All (IsFlowPath program (is_protected program)) paths

-- no more flows through a site than its weight
abbrev pub Fits : Program → Certificate → ℕ → Type 0
Fits program c s = (w : ℕ) → site_weight program s ≡ Some w → flow_through c.paths s ≤ w

-- the first rule that is broken: of rules 1 to 3 at the path of that index, of rule 4 at the position of that number, or rule 5
pub data Breaks (program : Program) (c : Certificate) (rule index : ℕ) : Type 0 where
  at_path : (path : FlowPath) → slice_get c.paths index ≡ Some path → ArePaths program (take index c.paths)
      → BreaksPath program path rule → Breaks program c rule index
  at_position : (w : ℕ) → rule ≡ 4 → ArePaths program c.paths → ((s : ℕ) → s < index → Fits program c s)
      → site_weight program index ≡ Some w → w < flow_through c.paths index
      → Breaks program c rule index
  at_sums : rule ≡ 5 → index ≡ 0 → ArePaths program c.paths → ((s : ℕ) → Fits program c s)
      → ((flow_of c.paths ≡ weight_of program (is_protected program)) × (flow_of c.paths ≡ c.weight) → ⊥) → Breaks program c rule index

-- a certificate's verdict
abbrev pub Checks : Program → Certificate → CertVerdict → Type 0
Checks program c Yes = Certifies program c
Checks program c (No rule index) = Breaks program c rule index

-- no passing set of sites weighs less than the program's protects
pub record AreLightest (program : Program) : Type 0 where
  pub lightest : (other : ℕ → Bool) → AreSites program other → Passes program other
      → weight_of program (is_protected program) ≤ weight_of program other

-- what a verdict says of the program's protects
abbrev pub Means : Program → CertVerdict → Type 0
Means program Yes = AreLightest program
Means program (No rule index) = ⊤
