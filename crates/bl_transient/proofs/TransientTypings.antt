-- What the search finds are the transient variables.
use Rattle.std.proofs.Common.{◌≡◌, ℕ, zero, suc, ◌<◌, Bool, true, false, List, [], ◌∷◌, length, map, Option, Some, None, refl, sym, ap, ◌∙◌, arith}
use Rattle.std.specs.Prelude.{IsTrue, ◌↔◌}
use Rattle.std.specs.List.{Contains, All}
use Rattle.std.proofs.lemmas.Bool.{false≢true}
use Rattle.bl_base.specs.declared.names.Flow.{Flow}
use Rattle.bl_base.proofs.Members.{none_in}
use Rattle.bl_program.specs.declared.definitions.ProgramParts.{ProgramParts as Program}
use Rattle.bl_graph.specs.Graphs.{use_of, IsGraph}
use Rattle.bl_graph.specs.Ranges.{commands, variables, AreInRange}
use Rattle.bl_graph.specs.declared.facts.Graph.{Graph}
use Rattle.bl_graph.proofs.ChainLemmas.{all_from}
use Rattle.bl_graph.proofs.RangeLemmas.{writes_one}
use Rattle.bl_graph.specs.Arcs.{is_in}
use Rattle.bl_graph.specs.WrittenVariables.{AreUnprotected, noted}
use Rattle.bl_transient.specs.Reachability.{FirstSink, Spread, begun, filled, flow_type, led}
use Rattle.bl_transient.specs.Transient.{Trans, nothing, loaded, moved, given}
use Rattle.bl_transient.proofs.LeastTypings.{exact_flows}
use Rattle.bl_transient.specs.Verdicts.{typing_of, IsLeastTyping, IsFirstSink}

module _ (program : Program) (g : Graph) (lists : IsGraph program g) (set : ℕ → Bool) (written : List (Option ℕ)) (free : AreUnprotected g.writes set written) where
  spread_trans : (x : ℕ) → Spread written [] g.loads g.reads x → Trans program set x
  spread_trans x (begun _ h) = absurd (none_in x h)
  spread_trans x (filled s _ h e) = let writes = (free.each s x).0 e in loaded s x ((lists.loads s).0 h) ((lists.writes.each s x).0 writes.0) writes.1
  spread_trans x (led s y _ h e t) =
      let writes = (free.each s x).0 e in moved s y x ((lists.reads.each s y).0 h) ((lists.writes.each s x).0 writes.0) writes.1 (spread_trans y t)

  trans_spread : (x : ℕ) → Trans program set x → Spread written [] g.loads g.reads x
  trans_spread x (loaded s _ load writes may) = filled s x ((lists.loads s).1 load) ((free.each s x).1 ((lists.writes.each s x).1 writes, may))
  trans_spread x (moved s y _ reads writes may t) = led s y x ((lists.reads.each s y).1 reads) ((free.each s x).1 ((lists.writes.each s x).1 writes, may)) (trans_spread y t)
  trans_spread x (given _ transient) = absurd (false≢true transient)

  pub marks_are : (marks : List Bool) → ((x : ℕ) → IsTrue (is_in marks x) ↔ Spread written [] g.loads g.reads x) → (x : ℕ) → IsTrue (is_in marks x) ↔ Trans program set x
  marks_are marks exact x = ((λ h. spread_trans x ((exact x).0 h)), (λ t. (exact x).1 (trans_spread x t)))

  pub written_within : AreInRange program → (s x : ℕ) → noted written s ≡ Some x → x < variables program
  written_within is s x e = (is.writes s x ((lists.writes.each s x).0 ((free.each s x).0 e).0)).1

module _ (program : Program) (g : Graph) (lists : IsGraph program g) where
  pub writes_within : AreInRange program → (n : ℕ) → n ≡ commands program → All (λ w. w.at.0 < n) g.writes
  writes_within is n e = all_from (λ w. w.at.0 < n) g.writes (λ w h.
      let lt = is.sites w.at.0 (is.writes w.at.0 w.var.0 ((lists.writes.each w.at.0 w.var.0).0 h)).0 in omega arith)

  pub one_write : (s x y : ℕ) → Contains g.writes (use_of s x) → Contains g.writes (use_of s y) → x ≡ y
  one_write s x y one other = writes_one program s x y ((lists.writes.each s x).0 one) ((lists.writes.each s y).0 other)

  pub reads_within : AreInRange program → All (λ r. r.var.0 < variables program) g.reads
  reads_within is = all_from (λ r. r.var.0 < variables program) g.reads (λ r h. (is.reads r.at.0 r.var.0 ((lists.reads.each r.at.0 r.var.0).0 h)).1)

  pub sinks_within : AreInRange program → (n : ℕ) → n ≡ variables program → All (λ s. s.var.0 < n) g.sinks
  sinks_within is n e = all_from (λ s. s.var.0 < n) g.sinks (λ s h. let lt = (is.sinks s.at.0 s.var.0 ((lists.sinks.each s.at.0 s.var.0).0 h)).1 in omega arith)

typed : (marks : List Bool) (x : ℕ) → typing_of (map flow_type marks) x ≡ is_in marks x
typed [] x = refl
typed (true ∷ marks) zero = refl
typed (false ∷ marks) zero = refl
typed (mark ∷ marks) (suc x) = typed marks x

types_length : (marks : List Bool) → length (map flow_type marks) ≡ length marks
types_length [] = refl
types_length (mark ∷ marks) = ap suc (types_length marks)

module _ (program : Program) (g : Graph) (lists : IsGraph program g) (set : ℕ → Bool) (marks : List Bool) (exact : (x : ℕ) → IsTrue (is_in marks x) ↔ Trans program set x) where
  pub least_typing : (flows : List Flow) → flows ≡ map flow_type marks → length marks ≡ variables program → FirstSink marks g.sinks None → IsLeastTyping program set flows
  least_typing flows e places none =
      let at : (x : ℕ) → typing_of flows x ≡ is_in marks x = λ x. ap (λ l. typing_of l x) e ∙ typed marks x in
      let trans : (x : ℕ) → IsTrue (typing_of flows x) ↔ Trans program set x = λ x. ((λ h. (exact x).0 (sym (at x) ∙ h)), (λ t. at x ∙ (exact x).1 t)) in
      record {
        places = ap length e ∙ (types_length marks ∙ places);
        flows_hold = exact_flows nothing program set (typing_of flows) trans
            (λ position x sink t. none position x ((lists.sinks.each position x).1 sink) ((exact x).1 t)) (λ x stable. absurd (false≢true stable));
        trans = trans;
      }

  pub first_trans : (position : ℕ) → FirstSink marks g.sinks (Some position) → IsFirstSink program set position
  first_trans position first = record {
    var = first.var;
    sink = (lists.sinks.each position first.var).0 first.sink;
    transient = (exact first.var).0 first.transient;
    least = λ other x sink t. first.least other x ((lists.sinks.each other x).1 sink) ((exact x).1 t);
  }
