-- Each protect has a path.
use Rattle.std.proofs.Common.{◌≡◌, ℕ, ◌*◌, ◌<◌, Bool, List, [], ◌∷◌, Option, Some, None, unwrap_or, sym, ap, subst, ◌∙◌, arith, inl, inr, nat_eq}
use Rattle.std.specs.Prelude.{IsTrue}
use Rattle.std.specs.List.{All, Contains, count_by, slice_index_or}
use Rattle.std.proofs.lemmas.Bool.{cases_Bool, cases_lt, eqb-true}
use Rattle.std.proofs.lemmas.List.Elements.{All-contains}
use Rattle.std.proofs.lemmas.List.Sums.{sum_by-cons}
use Rattle.std.proofs.Math.Nat.{mul-zero, mul-one}
use Rattle.bl_base.proofs.Sums.{sum_tight}
use Rattle.bl_base.proofs.OptionLemmas.{some_value}
use Rattle.bl_base.proofs.Members.{first_in, later_in}
use Rattle.bl_program.specs.Sites.{site_weight}
use Rattle.bl_program.specs.declared.definitions.ProgramParts.{ProgramParts as Program}
use Rattle.bl_graph.specs.Ranges.{commands, AreSites, AreInRange}
use Rattle.bl_graph.specs.Certificates.{sites_of, flow_through, flow_of, IsFlowPath, CertifiesSet}
use Rattle.bl_graph.specs.declared.certificate.FlowPath.{FlowPath}
use Rattle.bl_graph.specs.declared.certificate.Certificate.{Certificate}
use Rattle.bl_graph.proofs.PathCounts.{amount_if, once, count_cons, all_head, all_tail, both_counts, crossed}
use Rattle.bl_graph.proofs.ChainLemmas.{chain_sites, share_le}

-- what is counted is there
counted_in : (s : ℕ) (xs : List ℕ) → 0 < count_by (λ t. nat_eq t s) xs → Contains xs s
counted_in s [] h = absurd (omega arith)
counted_in s (x ∷ xs) h =
    let sum = count_cons (λ t. nat_eq t s) x xs in
    elim (cases_Bool (nat_eq x s)) as (λ _. Contains (x ∷ xs) s) [
      | inl e ↦ subst (λ t. Contains (x ∷ xs) t) (eqb-true x s e) (first_in x xs)
      | inr e ↦ let none = ap once e in later_in x s xs (counted_in s xs (omega arith))
    ]

-- a flow through a site takes some path through it
some_path : (s : ℕ) (paths : List FlowPath) → 0 < flow_through paths s → (path : FlowPath) × Contains paths path × Contains (sites_of path) s
some_path s [] h = absurd (omega arith)
some_path s (p ∷ paths) h =
    let sum = sum_by-cons (λ path. path.amount * count_by (λ t. nat_eq t s) (sites_of path)) p paths in
    elim (cases_lt 0 (count_by (λ t. nat_eq t s) (sites_of p))) as (λ _. (path : FlowPath) × Contains (p ∷ paths) path × Contains (sites_of path) s) [
      | inl some ↦ (p, first_in p paths, counted_in s (sites_of p) some)
      | inr none ↦
          let zero_ : count_by (λ t. nat_eq t s) (sites_of p) ≡ 0 = omega arith in
          let product = ap (λ k. p.amount * k) zero_ ∙ mul-zero p.amount in
          let rest = some_path s paths (omega arith) in
          (rest.0, later_in p rest.0 paths rest.1, rest.2)
    ]

crossed_one : (set : ℕ → Bool) (paths : List FlowPath) → All (λ p. count_by set (sites_of p) ≡ 1) paths → crossed (λ p. p.amount) sites_of set paths ≡ flow_of paths
crossed_one set [] all = Rattle.std.proofs.Common.refl
crossed_one set (p ∷ paths) all =
    let rest = crossed_one set paths (all_tail (λ q. count_by set (sites_of q) ≡ 1) p paths all) in
    let one = ap (λ k. p.amount * k) (all_head (λ q. count_by set (sites_of q) ≡ 1) p paths all) ∙ mul-one p.amount in
    let left = sum_by-cons (λ q. q.amount * count_by set (sites_of q)) p paths in
    let right = sum_by-cons (λ q. q.amount) p paths in
    omega arith

-- each protected site of a certified set is on a path
pub reason : (program : Program) → AreInRange program → (set : ℕ → Bool) → AreSites program set → (c : Certificate) → CertifiesSet program set c → (s : ℕ) → IsTrue (set s)
    → (path : FlowPath) × Contains c.paths path × Contains (sites_of path) s × IsFlowPath program set path
reason program is set sites c certifies s h =
    let ones : All (λ p. count_by set (sites_of p) ≡ 1) c.paths = λ k d lt. (certifies.paths k d lt).once in
    let within : All (λ p. All (λ t. t < commands program) (sites_of p)) c.paths =
    λ k d lt. chain_sites program is (sites_of (slice_index_or c.paths k d)) (slice_index_or c.paths k d).sink.0 (certifies.paths k d lt).chain in
    let both = both_counts (λ p. p.amount) sites_of (commands program) set c.paths within in
    let one = crossed_one set c.paths ones in
    let flow = certifies.flow in
    let lt = is.sites s (sites s h) in
    let tight = sum_tight (commands program) (λ t. amount_if (set t) (flow_through c.paths t)) (λ t. amount_if (set t) (unwrap_or (site_weight program t) 0))
    (λ t _. share_le program set sites c.paths certifies.fits t) (omega arith) s lt in
    let w = some_value (site_weight program s) (sites s h) in
    let positive = is.weights s w.0 w.1 in
    let left = ap (λ b. amount_if b (flow_through c.paths s)) h in
    let right = ap (λ b. amount_if b (unwrap_or (site_weight program s) 0)) h ∙ ap (λ o. unwrap_or o 0) w.1 in
    let found = some_path s c.paths (omega arith) in
    (found.0, found.1, found.2, All-contains (IsFlowPath program set) c.paths found.0 certifies.paths found.1)
