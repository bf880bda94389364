-- From the answer of the maximum flow to the choice.
use Rattle.std.proofs.Common.{◌≡◌, ℕ, ◌+◌, ◌-◌, List, [], ◌∷◌, ◌++◌, length, sym, ap, subst, ◌∙◌, arith, inl, inr, ◌&&◌, nat_lt, slice_index}
use Rattle.std.specs.Prelude.{IsTrue, map}
use Rattle.std.specs.List.{All, Contains, slice_index_or}
use Rattle.std.specs.FinSet as fin
use Rattle.std.specs.FinSet.{FinSet}
use Rattle.std.specs.Ordering.{nat_cmp}
use Rattle.std.proofs.lemmas.Bool.{cases_Bool, lt-ltb, and_from, and_right}
use Rattle.bl_program.specs.Sites.{SinkReads, weight_of}
use Rattle.bl_program.specs.declared.definitions.ProgramParts.{ProgramParts as Program}
use Rattle.bl_flow.specs.declared.network.NodePath.{NodePath}
use Rattle.bl_flow.specs.declared.network.FlowResult.{FlowResult}
use Rattle.bl_flow.specs.declared.network.LeastCut.{LeastCut}
use Rattle.bl_flow.specs.declared.network.Network.{Network}
use Rattle.bl_flow.specs.Networks.{IsPath}
use Rattle.bl_flow.specs.Cuts.{IsLeastCut, cut_of}
use Rattle.bl_graph.specs.Certificates.{CertifiesSet, Certifies}
use Rattle.bl_graph.specs.Graphs.{IsGraph}
use Rattle.bl_graph.specs.Ranges.{commands, AreInRange}
use Rattle.bl_graph.specs.declared.certificate.FlowPath.{FlowPath}
use Rattle.bl_graph.specs.declared.facts.Graph.{Graph}
use Rattle.bl_transient.specs.Transient.{Asked, nothing}
use Rattle.bl_transient.specs.Verdicts.{asked_of}
use Rattle.bl_transient.specs.declared.asked.AskedOf.{AskedOf}
use Rattle.bl_cut.specs.Choices.{IsFlowOf, KnowsSinks, KnowsIn, path_of, EndsAtVar}
use Rattle.bl_cut.specs.Least.{Least, LeastUnder}
use Rattle.bl_cut.specs.Marks.{protected}
use Rattle.bl_graph.specs.Names.{place_of}
use Rattle.bl_cut.specs.Network.{node_of, IsBarred, IsNetwork, IsNetworkUnder}
use Rattle.bl_graph.proofs.NameLemmas.{place_within}
use Rattle.bl_graph.proofs.AskedLists.{asked_in}
use Rattle.bl_cut.proofs.NearestCuts.{certified, nearest_least, nearest_sites, nearest_weighs, last_at, last_place}
use Rattle.bl_cut.proofs.MarkedPrograms.{certifies_on}

-- what is known of lists is known of the program
pub knows_sinks : (program : Program) (g : Graph) (names sink_of : List ℕ) → IsGraph program g → KnowsIn names g.sinks sink_of → KnowsSinks program names sink_of
knows_sinks program g names sink_of lists knows = record {
  each = λ position x sink. (lists.sinks.each (slice_index sink_of (place_of names x)) x).0 (knows position x ((lists.sinks.each position x).1 sink));
}

-- a path's last node is that of a variable
ends_at_var : (program : Program) (names : List ℕ) → AreInRange program → (n : Network) → IsNetwork program names n → (path : NodePath) → IsPath n path → EndsAtVar (commands program) (length names) path.nodes
ends_at_var program names is n net path p =
    let end = (net.ends p.last).0 p.to_an_end in
    let e : p.last ≡ node_of program names end.0 = end.1 in
    let within = place_within names end.0 net.named.rise end.2 in
    let last : slice_index path.nodes (length path.nodes - 1) ≡ p.last =
    ap (λ nodes. slice_index nodes (length nodes - 1)) p.nodes ∙ (ap (slice_index (p.before ++ p.last ∷ [])) (last_place p.before p.last) ∙ last_at p.before p.last) in
    let some : length path.nodes ≡ length p.before + 1 = ap length p.nodes ∙ Rattle.std.proofs.Math.ListN.length-append p.before (p.last ∷ []) in
    record { some = omega arith; behind = omega arith; within = omega arith }

pub all_end_at_vars : (program : Program) (names : List ℕ) → AreInRange program → (r : FlowResult) → IsFlowOf program names r → (n vars : ℕ) → n ≡ commands program → vars ≡ length names
    → All (λ path. EndsAtVar n vars path.nodes) r.paths
all_end_at_vars program names is r flow n vars e f = λ k d lt.
    subst (λ m. EndsAtVar m vars (slice_index_or r.paths k d).nodes) (sym e)
    (subst (λ v. EndsAtVar (commands program) v (slice_index_or r.paths k d).nodes) (sym f)
    (ends_at_var program names is flow.network flow.is (slice_index_or r.paths k d) (flow.flow.paths k d lt)))

module _ (asked : Asked) (program : Program) (names : List ℕ) (is : AreInRange program) (n : Network) (net : IsNetworkUnder asked program names n) (c : LeastCut) (found : IsLeastCut n c)
    (count : ℕ) (e : count ≡ commands program) (set : FinSet nat_cmp) (holds : (s : ℕ) → fin.contains set s ≡ (nat_lt s count && cut_of c s)) where
  at_each : (s : ℕ) → cut_of c s ≡ fin.contains set s
  at_each s =
      elim (cases_Bool (cut_of c s)) as (λ _. cut_of c s ≡ fin.contains set s) [
        | inl h ↦
            let lt = is.sites s (nearest_sites asked program names is n net c found s h) in
            h ∙ sym (holds s ∙ and_from (nat_lt s count) (cut_of c s) (lt-ltb s count (omega arith)) h)
        | inr h ↦ h ∙ sym (holds s ∙ and_right (nat_lt s count) (cut_of c s) h)
      ]

  pub same_set : cut_of c ≡ fin.contains set
  same_set = λ i s. at_each s i

  pub set_least : LeastUnder asked program (fin.contains set)
  set_least = subst (LeastUnder asked program) same_set (nearest_least asked program names is n net c found)

  pub set_weighs : c.weight ≡ weight_of program (fin.contains set)
  set_weighs = sym (nearest_weighs asked program names is n net c found) ∙ ap (weight_of program) same_set

module _ (program : Program) (names : List ℕ) (is : AreInRange program) (r : FlowResult) (found : IsFlowOf program names r) (n : ℕ) (e : n ≡ commands program)
    (set : FinSet nat_cmp) (holds : (s : ℕ) → fin.contains set s ≡ (nat_lt s n && cut_of r.cut s)) where
  pub answer_least : Least program (fin.contains set)
  answer_least = set_least nothing program names is found.network found.is r.cut found.flow.cut n e set holds

  pub answer_weight : r.cut.weight ≡ weight_of program (fin.contains set)
  answer_weight = set_weighs nothing program names is found.network found.is r.cut found.flow.cut n e set holds

  module _ (sink_of : List ℕ) (knows : KnowsSinks program names sink_of) where
    certifies_set : CertifiesSet program (fin.contains set) (record { paths = map (path_of (commands program) sink_of) r.paths; weight = r.cut.weight })
    certifies_set =
        subst (λ s. CertifiesSet program s (record { paths = map (path_of (commands program) sink_of) r.paths; weight = r.cut.weight })) (same_set nothing program names is found.network found.is r.cut found.flow.cut n e set holds)
        (certified program names is found.network found.is r found.flow sink_of knows)

    pub answer_certificate : (paths : List FlowPath) → paths ≡ map (path_of n sink_of) r.paths → Certifies (protected (fin.contains set) program) (record { paths = paths; weight = r.cut.weight })
    answer_certificate paths back =
        certifies_on (fin.contains set) program answer_least.sites (record { paths = paths; weight = r.cut.weight })
        (subst (λ c. CertifiesSet program (fin.contains set) (record { paths = c; weight = r.cut.weight })) (sym (back ∙ ap (λ m. map (path_of m sink_of) r.paths) e)) certifies_set)

-- ---- what lists ask

-- no variable is in both lists, nor one of the first read by a sink
pub lists_apart : (program : Program) (lists : AskedOf) → ((x : ℕ) → Contains lists.transient x → Contains lists.stable x → ⊥) → ((position x : ℕ) → SinkReads program position x → Contains lists.transient x → ⊥)
    → (x : ℕ) → IsTrue ((asked_of lists).transient x) → IsBarred (asked_of lists) program x → ⊥
lists_apart program lists apart sinks x transient (inl sink) = sinks sink.0 x sink.1 (asked_in lists.transient x transient)
lists_apart program lists apart sinks x transient (inr stable) = apart x (asked_in lists.transient x transient) (asked_in lists.stable x stable)

pub network_of : (program : Program) (names transient stable : List ℕ) (lists : AskedOf) (n : Network) → transient ≡ lists.transient → stable ≡ lists.stable
    → IsNetworkUnder (asked_of (record { transient = transient; stable = stable })) program names n → IsNetworkUnder (asked_of lists) program names n
network_of program names transient stable lists n e f is =
    subst (λ l. IsNetworkUnder (asked_of (record { transient = lists.transient; stable = l })) program names n) f
    (subst (λ l. IsNetworkUnder (asked_of (record { transient = l; stable = stable })) program names n) e is)
