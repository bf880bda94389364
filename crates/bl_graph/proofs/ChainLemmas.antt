-- Chains: what meets them, and which sites they have.
use Rattle.std.proofs.Common.{◌≡◌, ℕ, ◌<◌, ◌≤◌, Bool, List, [], ◌∷◌, Some, unwrap_or, ap, ◌∙◌, arith, inl, inr, not}
use Rattle.std.specs.Prelude.{IsTrue}
use Rattle.std.specs.List.{All, Any, Contains, count_by}
use Rattle.std.proofs.lemmas.Bool.{cases_Bool, not_from_false}
use Rattle.std.proofs.lemmas.List.Elements.{All-contains, All-cons, All-nil, Contains-get_or}
use Rattle.bl_base.proofs.Sums.{sum_le}
use Rattle.bl_base.proofs.BoolLemmas.{never_both}
use Rattle.bl_base.proofs.OptionLemmas.{some_value}
use Rattle.bl_base.proofs.Members.{any_here, any_later}
use Rattle.bl_program.specs.Sites.{IsLoad, Writes, Reads, SinkReads, site_weight, weight_of}
use Rattle.bl_program.specs.declared.definitions.ProgramParts.{ProgramParts as Program}
use Rattle.bl_graph.specs.Ranges.{commands, AreSites, AreInRange}
use Rattle.bl_graph.specs.Chains.{Carries, IsChain}
use Rattle.bl_graph.specs.Certificates.{sites_of, flow_through, IsFlowPath, CertifiesSet}
use Rattle.bl_graph.specs.declared.certificate.FlowPath.{FlowPath}
use Rattle.bl_graph.specs.declared.certificate.Certificate.{Certificate}
use Rattle.bl_graph.proofs.PathCounts.{amount_if, crossed, both_counts, crossed_least, any_counted}

-- a property of each element, from one of what is contained
pub all_from : {X : Type 0} (P : X → Type 0) (xs : List X) → ((x : X) → Contains xs x → P x) → All P xs
all_from P xs each = λ k d lt. each (Rattle.std.specs.List.slice_index_or xs k d) (Contains-get_or xs k d lt)

-- a set meets a chain in one of its sites
abbrev pub Protected : (ℕ → Bool) → List ℕ → Type 0
Protected set sites = Any (λ s. IsTrue (set s)) sites

-- with a typing that keeps the rules on what sites that aren't in the set write, and none of whose variables a sink reads, the
-- set meets every chain
module _ (program : Program) (set typing : ℕ → Bool)
    (loads : (s x : ℕ) → IsLoad program s → Writes program s x → IsTrue (not (set s)) → IsTrue (typing x))
    (moves : (s x y : ℕ) → Reads program s x → Writes program s y → IsTrue (not (set s)) → IsTrue (typing x) → IsTrue (typing y))
    (sinks : (position x : ℕ) → SinkReads program position x → IsTrue (not (typing x))) where
  rest_met : (x : ℕ) (sites : List ℕ) (sink : ℕ) → IsTrue (typing x) → Carries program x sites sink → Protected set sites
  rest_met x [] sink transient carries = absurd (never_both (typing x) transient (sinks sink x carries))
  rest_met x (s ∷ rest) sink transient carries =
      elim (cases_Bool (set s)) as (λ _. Protected set (s ∷ rest)) [
        | inl e ↦ any_here (λ t. IsTrue (set t)) s rest e
        | inr e ↦
            let y : ℕ = carries.1.0 in
            any_later (λ t. IsTrue (set t)) s rest (rest_met y rest sink (moves s x y carries.0 carries.1.1 (not_from_false (set s) e) transient) carries.1.2)
      ]

  pub chain_met : (sites : List ℕ) (sink : ℕ) → IsChain program sites sink → Protected set sites
  chain_met [] sink chain = absurd chain
  chain_met (s ∷ rest) sink chain =
      elim (cases_Bool (set s)) as (λ _. Protected set (s ∷ rest)) [
        | inl e ↦ any_here (λ t. IsTrue (set t)) s rest e
        | inr e ↦
            let x : ℕ = chain.1.0 in
            any_later (λ t. IsTrue (set t)) s rest (rest_met x rest sink (loads s x chain.0 chain.1.1 (not_from_false (set s) e)) chain.1.2)
      ]

-- the sites of a chain are sites
module _ (program : Program) (is : AreInRange program) where
  rest_sites : (x : ℕ) (sites : List ℕ) (sink : ℕ) → Carries program x sites sink → All (λ s. s < commands program) sites
  rest_sites x [] sink carries = All-nil (λ s. s < commands program)
  rest_sites x (s ∷ rest) sink carries =
      All-cons (λ t. t < commands program) s rest (is.sites s (is.reads s x carries.0).0) (rest_sites carries.1.0 rest sink carries.1.2)

  pub chain_sites : (sites : List ℕ) (sink : ℕ) → IsChain program sites sink → All (λ s. s < commands program) sites
  chain_sites [] sink chain = absurd chain
  chain_sites (s ∷ rest) sink chain =
      All-cons (λ t. t < commands program) s rest (is.sites s (is.loads s chain.0)) (rest_sites chain.1.0 rest sink chain.1.2)

abbrev pub amount_of : FlowPath → ℕ
amount_of path = path.amount

module _ (program : Program) (set : ℕ → Bool) (sites : AreSites program set) (paths : List FlowPath)
    (fits : (s w : ℕ) → site_weight program s ≡ Some w → flow_through paths s ≤ w) where
  pub share_le : (s : ℕ) → amount_if (set s) (flow_through paths s) ≤ amount_if (set s) (unwrap_or (site_weight program s) 0)
  share_le s =
      elim (cases_Bool (set s)) as (λ _. amount_if (set s) (flow_through paths s) ≤ amount_if (set s) (unwrap_or (site_weight program s) 0)) [
        | inl e ↦
            let w = some_value (site_weight program s) (sites s e) in
            let most = fits s w.0 w.1 in
            let left : amount_if (set s) (flow_through paths s) ≡ flow_through paths s = ap (λ b. amount_if b (flow_through paths s)) e in
            let right : amount_if (set s) (unwrap_or (site_weight program s) 0) ≡ w.0 =
            ap (λ b. amount_if b (unwrap_or (site_weight program s) 0)) e ∙ ap (λ o. unwrap_or o 0) w.1 in
            omega arith
        | inr e ↦
            let left : amount_if (set s) (flow_through paths s) ≡ 0 = ap (λ b. amount_if b (flow_through paths s)) e in
            omega arith
      ]

  -- paths cross a set no more than it weighs
  pub crossed_most : All (λ p. All (λ s. s < commands program) (sites_of p)) paths → crossed amount_of sites_of set paths ≤ weight_of program set
  crossed_most within =
      let both = both_counts amount_of sites_of (commands program) set paths within in
      let le = sum_le (commands program) (λ s. amount_if (set s) (flow_through paths s)) (λ s. amount_if (set s) (unwrap_or (site_weight program s) 0)) (λ s _. share_le s) in
      omega arith

-- where a certificate keeps its rules, no set of sites that meets every chain weighs less
pub none_lighter : (program : Program) → AreInRange program → (set : ℕ → Bool) (c : Certificate) → CertifiesSet program set c → (other : ℕ → Bool) → AreSites program other
    → ((sites : List ℕ) (sink : ℕ) → IsChain program sites sink → Protected other sites) → weight_of program set ≤ weight_of program other
none_lighter program is set c certifies other sites meets =
    let within = all_from (λ p. All (λ s. s < commands program) (sites_of p)) c.paths (λ p h.
    chain_sites program is (sites_of p) p.sink.0 (All-contains (IsFlowPath program set) c.paths p certifies.paths h).chain) in
    let met = all_from (λ p. 1 ≤ count_by other (sites_of p)) c.paths (λ p h.
    any_counted other (sites_of p) (meets (sites_of p) p.sink.0 (All-contains (IsFlowPath program set) c.paths p certifies.paths h).chain)) in
    let most = crossed_most program other sites c.paths certifies.fits within in
    let least = crossed_least amount_of sites_of other c.paths met in
    let flow = certifies.flow in
    omega arith
