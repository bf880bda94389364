-- The cut nearest the starts is the least choice, also where something is asked of variables; its paths certify it where nothing is.
use Rattle.std.proofs.Common.{◌≡◌, ℕ, Bool, ◌-◌, ◌*◌, ◌<◌, ◌≤◌, List, [], ◌∷◌, ◌++◌, length, Some, refl, sym, ap, subst, ◌∙◌, arith, ◌⊎◌, inl, inr, nat_eq, nat_lt, slice_index}
use Rattle.std.specs.Prelude.{IsSome, map}
use Rattle.std.specs.List.{All, count_by}
use Rattle.std.proofs.lemmas.Bool.{eqb-true, false≢true, lt-ltb}
use Rattle.std.proofs.lemmas.List.Elements.{All-contains}
use Rattle.bl_base.specs.declared.number.Pos.{Pos}
use Rattle.bl_base.proofs.Members.{from_map}
use Rattle.bl_program.specs.Sites.{IsLoad, SinkReads, site_weight, weight_of}
use Rattle.bl_program.specs.declared.definitions.ProgramParts.{ProgramParts as Program}
use Rattle.bl_flow.specs.declared.network.NodePath.{NodePath}
use Rattle.bl_flow.specs.declared.network.FlowResult.{FlowResult}
use Rattle.bl_flow.specs.declared.network.LeastCut.{LeastCut}
use Rattle.bl_flow.specs.declared.network.Network.{Network}
use Rattle.bl_flow.specs.Networks.{IsPath, load}
use Rattle.bl_flow.specs.Cuts.{IsLeastCut, cut_of, cut_weight}
use Rattle.bl_graph.specs.Certificates.{sites_of, flow_through, flow_of, IsFlowPath, CertifiesSet}
use Rattle.bl_graph.specs.Chains.{IsChain}
use Rattle.bl_graph.specs.Ranges.{commands, AreSites, AreInRange}
use Rattle.bl_graph.specs.declared.certificate.FlowPath.{FlowPath}
use Rattle.bl_graph.proofs.ChainLemmas.{all_from, amount_of, chain_sites, crossed_most}
use Rattle.bl_graph.proofs.PathCounts.{crossed_once, any_counted, count_filter, sum_map, sum_alike}
use Rattle.bl_transient.specs.Transient.{Asked, nothing}
use Rattle.bl_transient.proofs.ChainsMet.{chain_met}
use Rattle.bl_flow.specs.MaxFlow.{IsMaxFlow}
use Rattle.bl_cut.specs.Choices.{KnowsSinks, sites_in, positions, last_var, path_of}
use Rattle.bl_cut.specs.Least.{Least, LeastUnder}
use Rattle.bl_graph.specs.Names.{place_of}
use Rattle.bl_cut.specs.Network.{node_of, IsBarred, IsFirstSite, IsAskedNode, IsNetwork, IsNetworkUnder}
use Rattle.bl_cut.proofs.PassingCuts.{cut_weighs, passing_cut, cut_sites, cut_passes}
use Rattle.bl_cut.proofs.TransientNodes.{named_trans}
use Rattle.bl_cut.proofs.NetworkWalks.{near_trans, near_var, walk_chain}

pub last_at : (xs : List ℕ) (e : ℕ) → slice_index (xs ++ e ∷ []) (length xs) ≡ e
last_at [] e = refl
last_at (x ∷ xs) e = last_at xs e

pub last_place : (xs : List ℕ) (e : ℕ) → length (xs ++ e ∷ []) - 1 ≡ length xs
last_place xs e = let sum = Rattle.std.proofs.Math.ListN.length-append xs (e ∷ []) in omega arith

pub numbers_back : (xs : List ℕ) → map (λ (s : Pos). s.0) (positions xs) ≡ xs
numbers_back [] = refl
numbers_back (x ∷ xs) = ap (λ l. x ∷ l) (numbers_back xs)

module _ (asked : Asked) (program : Program) (names : List ℕ) (is : AreInRange program) (n : Network) (net : IsNetworkUnder asked program names n) (c : LeastCut) (found : IsLeastCut n c) where
  pub nearest_sites : AreSites program (cut_of c)
  nearest_sites = cut_sites asked program names is n net (cut_of c) found.cut

  pub nearest_weighs : weight_of program (cut_of c) ≡ c.weight
  nearest_weighs = sym (cut_weighs asked program names is n net (cut_of c)) ∙ found.weight

  -- the cut is the least choice
  pub nearest_least : LeastUnder asked program (cut_of c)
  nearest_least =
      let worth = nearest_weighs in
      record {
        sites = nearest_sites;
        passes = cut_passes asked program names is n net (cut_of c) found.cut;
        lightest = λ other are passes.
            let theirs = cut_weighs asked program names is n net other in
            let most = found.least other (passing_cut asked program names is n net other are passes) in
            omega arith;
        nearest = λ other are passes same x t.
            let theirs = cut_weighs asked program names is n net other in
            let weighs : cut_weight n other ≡ c.weight = omega arith in
            let lies = found.nearest other (passing_cut asked program names is n net other are passes) weighs in
            near_var asked program names is n net other x (named_trans asked program names net.named net.transient_named (cut_of c) x t)
            (lies.in_parts (node_of program names x) ((found.near.in_parts (node_of program names x)).1 (near_trans asked program names is n net (cut_of c) nearest_sites x t)));
      }

module _ (program : Program) (names : List ℕ) (is : AreInRange program) (n : Network) (net : IsNetwork program names n) (r : FlowResult) (flow : IsMaxFlow n r) where
  abbrev cut : ℕ → Bool
  cut = cut_of r.cut

  pub is_least : Least program cut
  is_least = nearest_least nothing program names is n net r.cut flow.cut

  -- where nothing is asked, starts are loads and ends are variables that sinks read
  start_load : (s : ℕ) → IsFirstSite nothing program s ⊎ IsAskedNode nothing program names s → IsLoad program s
  start_load s (inl (inl load)) = load
  start_load s (inl (inr one)) = absurd (false≢true one.2)
  start_load s (inr transient) = absurd (false≢true transient.3)

  end_sink : (x : ℕ) → IsBarred nothing program x → (position : ℕ) × SinkReads program position x
  end_sink x (inl sink) = sink
  end_sink x (inr stable) = absurd (false≢true stable)

  module _ (sink_of : List ℕ) (knows : KnowsSinks program names sink_of) where
    abbrev back : NodePath → FlowPath
    back path = path_of (commands program) sink_of path

    same_sites : (path : NodePath) → sites_of (back path) ≡ sites_in (commands program) path.nodes
    same_sites path = numbers_back (sites_in (commands program) path.nodes)

    -- a path read back is a chain
    back_chain : (path : NodePath) → IsPath n path → IsChain program (sites_of (back path)) (back path).sink.0
    back_chain path p =
        let end = (net.ends p.last).0 p.to_an_end in
        let z : ℕ = end.0 in
        let e : p.last ≡ node_of program names z = end.1 in
        let sink = end_sink z end.3 in
        let last_node : slice_index path.nodes (length path.nodes - 1) ≡ p.last =
        ap (λ nodes. slice_index nodes (length nodes - 1)) p.nodes ∙ (ap (slice_index (p.before ++ p.last ∷ [])) (last_place p.before p.last) ∙ last_at p.before p.last) in
        let last : last_var (commands program) path.nodes ≡ place_of names z = omega arith in
        let chain = walk_chain program names is n net (slice_index sink_of (place_of names z)) p.start p.last z p.before (start_load p.start ((net.starts p.start).0 p.from_a_start)) e (knows.each sink.0 z sink.1) p.walk in
        subst (λ l. IsChain program l (back path).sink.0) (sym (same_sites path))
        (subst (λ x. IsChain program (sites_in (commands program) path.nodes) (slice_index sink_of x)) (sym last)
        (subst (λ nodes. IsChain program (sites_in (commands program) nodes) (slice_index sink_of (place_of names z))) (sym p.nodes) chain))

    abbrev pub paths : List FlowPath
    paths = map back r.paths

    each_back : (P : FlowPath → Type 0) → ((path : NodePath) → IsPath n path → P (back path)) → All P paths
    each_back P each = all_from P paths (λ q h.
        let found = from_map back r.paths q h in
        subst P found.2 (each found.0 (All-contains (IsPath n) r.paths found.0 flow.paths found.1)))

    -- the same flows through a site
    same_load : (s : ℕ) → s < commands program → flow_through paths s ≡ load r.paths s
    same_load s lt =
        sum_map (λ p. p.amount * count_by (λ t. nat_eq t s) (sites_of p)) back r.paths
        ∙ sum_alike (λ path. path.amount * count_by (λ t. nat_eq t s) (sites_of (back path))) (λ path. path.amount * count_by (λ t. nat_eq t s) path.nodes)
        (λ path. ap (λ l. path.amount * count_by (λ t. nat_eq t s) l) (same_sites path)
        ∙ ap (λ c. path.amount * c)
        (count_filter (λ t. nat_eq t s) (λ v. nat_lt v (commands program)) (λ v e. let same = eqb-true v s e in lt-ltb v (commands program) (omega arith)) path.nodes)) r.paths

    same_flow : flow_of paths ≡ r.cut.weight
    same_flow = sum_map (λ p. p.amount) back r.paths ∙ flow.weight

    fits : (s w : ℕ) → site_weight program s ≡ Some w → flow_through paths s ≤ w
    fits s w e =
        let lt = is.sites s (subst (λ o. IsSome o) (sym e) refl) in
        let same = same_load s lt in
        let most = flow.loads s w (net.weights s ∙ e) in
        omega arith

    within : All (λ p. All (λ s. s < commands program) (sites_of p)) paths
    within = each_back (λ p. All (λ s. s < commands program) (sites_of p)) (λ path p. chain_sites program is (sites_of (back path)) (back path).sink.0 (back_chain path p))

    met : All (λ p. 1 ≤ count_by cut (sites_of p)) paths
    met = each_back (λ p. 1 ≤ count_by cut (sites_of p)) (λ path p.
        any_counted cut (sites_of (back path))
        (chain_met program cut (cut_passes nothing program names is n net cut flow.cut.cut) (sites_of (back path)) (back path).sink.0 (back_chain path p)))

    some : All (λ p. 0 < p.amount) paths
    some = each_back (λ p. 0 < p.amount) (λ path p. p.amount)

    worth : weight_of program cut ≡ flow_of paths
    worth = nearest_weighs nothing program names is n net r.cut flow.cut ∙ sym same_flow

    once : All (λ p. count_by cut (sites_of p) ≡ 1) paths
    once =
        let most = crossed_most program cut (nearest_sites nothing program names is n net r.cut flow.cut) paths fits within in
        let same = worth in
        crossed_once amount_of sites_of cut paths some met (omega arith)

    -- the paths read back certify the cut
    pub certified : CertifiesSet program cut (record { paths = paths; weight = r.cut.weight })
    certified = record {
      paths = all_from (IsFlowPath program cut) paths (λ q h.
          let found = from_map back r.paths q h in
          let p = All-contains (IsPath n) r.paths found.0 flow.paths found.1 in
          record {
            chain = subst (λ q. IsChain program (sites_of q) q.sink.0) found.2 (back_chain found.0 p);
            amount = All-contains (λ p. 0 < p.amount) paths q some h;
            once = All-contains (λ p. count_by cut (sites_of p) ≡ 1) paths q once h;
          });
      fits = fits;
      flow = sym worth;
      weight = same_flow;
    }
