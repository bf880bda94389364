-- The rules of certificates.
use Rattle.std.specs.Prelude.{◌≡◌, ◌*◌, ◌<◌, ◌≤◌, ℕ, Bool, List, map, Some, nat_eq, sum_by, count_by}
use Rattle.std.specs.List.{All}
use Rattle.bl_program.specs.Sites.{is_protected, site_weight, weight_of}
use Rattle.bl_program.specs.declared.definitions.ProgramParts.{ProgramParts as Program}
use Rattle.bl_graph.specs.Chains.{IsChain}
use Rattle.bl_graph.specs.declared.certificate.FlowPath.{FlowPath}
use Rattle.bl_graph.specs.declared.certificate.Certificate.{Certificate}

-- the positions of a path's sites
abbrev pub sites_of : FlowPath → List ℕ
sites_of path = map (λ s. s.0) path.sites

-- how much flows through a site, each place of a path counted once
abbrev pub flow_through : List FlowPath → ℕ → ℕ
flow_through paths s = sum_by (λ path. path.amount * count_by (λ t. nat_eq t s) (sites_of path)) paths

-- how much flows
abbrev pub flow_of : List FlowPath → ℕ
flow_of paths = sum_by (λ path. path.amount) paths

-- the rules on a path, where the sites of a set are protected
pub record IsFlowPath (program : Program) (set : ℕ → Bool) (path : FlowPath) : Type 0 where
  -- rule 1: it is a chain
  pub chain : IsChain program (sites_of path) path.sink.0
  -- rule 2: something flows
  pub amount : 0 < path.amount
  -- rule 3: exactly one place of it is protected
  pub once : count_by set (sites_of path) ≡ 1

-- the rules of certificates, where the sites of a set are protected
pub record CertifiesSet (program : Program) (set : ℕ → Bool) (c : Certificate) : Type 0 where
  pub paths : All (IsFlowPath program set) c.paths
  -- rule 4: no more flows through a site than its weight
  pub fits : (s w : ℕ) → site_weight program s ≡ Some w → flow_through c.paths s ≤ w
  -- rule 5: what flows is the weight of the protects, and the certificate's
  pub flow : flow_of c.paths ≡ weight_of program set
  pub weight : flow_of c.paths ≡ c.weight

-- the rules of certificates for a program's own protects
abbrev pub Certifies : Program → Certificate → Type 0
Certifies program c = CertifiesSet program (is_protected program) c
