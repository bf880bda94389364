-- Links of a chain, in a graph's lists and in its program.
use Rattle.std.proofs.Common.{◌≡◌, ℕ, ◌+◌, ◌<◌, ◌≤◌, List, [], ◌∷◌, length, map, drop, get_or, subst, sym}
use Rattle.std.specs.Prelude.{◌↔◌}
use Rattle.std.proofs.lemmas.List.{drop_all, drop_more}
use Rattle.bl_base.specs.declared.number.Pos.{Pos}
use Rattle.bl_program.specs.Sites.{Writes}
use Rattle.bl_program.specs.declared.definitions.ProgramParts.{ProgramParts as Program}
use Rattle.bl_graph.specs.Chains.{Carries}
use Rattle.bl_graph.specs.Graphs.{IsGraph}
use Rattle.bl_graph.specs.declared.facts.Graph.{Graph}
use Rattle.bl_graph.proofs.RangeLemmas.{writes_one}
use Rattle.bl_witness.specs.LookupAnswers.{IsLinked, IsOrdered, LeadsToSink}

-- ---- a chain's rest

abbrev numbers : List Pos → List ℕ
numbers sites = map (λ (s : Pos). s.0) sites

module _ (graph : Graph) (former : ℕ) (rest : List Pos) (i sink : ℕ) where
  abbrev On : List Pos → Type 0
  On sites = LeadsToSink graph former (numbers sites) sink

  pub leads_next : (d : Pos) → i < length rest
      → LeadsToSink graph former (numbers (drop i rest)) sink ↔ (IsLinked graph.writes graph.reads former (get_or rest i d).0 × LeadsToSink graph (get_or rest i d).0 (numbers (drop (i + 1) rest)) sink)
  leads_next d lt =
      let left : drop i rest ≡ get_or rest i d ∷ drop (i + 1) rest = drop_more rest i d lt in
      (λ h. subst On left h, λ h. subst On (sym left) h)

  pub leads_end : length rest ≤ i → LeadsToSink graph former (numbers (drop i rest)) sink ↔ IsLinked graph.writes graph.sinks former sink
  leads_end past =
      let left : drop i rest ≡ [] = drop_all i rest past in
      (λ h. subst On left h, λ h. subst On (sym left) h)

-- ---- in its program

module _ (program : Program) (graph : Graph) (is : IsGraph program graph) where
  pub ordered : IsOrdered graph
  ordered = record {
    writes = is.writes.rise;
    reads = is.reads.rise;
    sinks = is.sinks.rise;
    one = λ s x y one other. writes_one program s x y ((is.writes.each s x).0 one) ((is.writes.each s y).0 other);
  }

  pub leads_on : (s : ℕ) (rest : List ℕ) (sink : ℕ) → LeadsToSink graph s rest sink ↔ ((x : ℕ) × Writes program s x × Carries program x rest sink)
  leads_on s [] sink = (
    λ h. (h.0, (is.writes.each s h.0).0 h.1, (is.sinks.each sink h.0).0 h.2),
    λ h. (h.0, (is.writes.each s h.0).1 h.1, (is.sinks.each sink h.0).1 h.2),
  )
  leads_on s (t ∷ rest) sink =
      let more = leads_on t rest sink in (
        λ h. (h.0.0, (is.writes.each s h.0.0).0 h.0.1, ((is.reads.each t h.0.0).0 h.0.2, more.0 h.1)),
        λ h. ((h.0, (is.writes.each s h.0).1 h.1, (is.reads.each t h.0).1 h.2.0), more.1 h.2.1),
      )
