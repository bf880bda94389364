-- A program's graph is its graph with other protects too.
use Rattle.std.proofs.Common.{◌≡◌, ℕ, Bool, Option, Some, None, sym, subst}
use Rattle.std.specs.Prelude.{◌↔◌, IsSomeAnd, List, option_map}
use Rattle.bl_program.specs.Layout.{command_at}
use Rattle.bl_program.specs.Sites.{Among, Loads, moved_by, sunk_by, written_by, Writes, Reads, SinkReads}
use Rattle.bl_program.specs.declared.command.Command.{Command}
use Rattle.bl_program.specs.declared.definitions.ProgramParts.{ProgramParts as Program}
use Rattle.bl_graph.specs.Graphs.{AreUses, IsGraph}
use Rattle.bl_graph.specs.declared.facts.Graph.{Graph}
use Rattle.bl_graph.specs.declared.facts.Use.{Use}
use Rattle.bl_cut.specs.Marks.{marked, protected}
use Rattle.bl_cut.proofs.MarkedRuns.{command_is}
use Rattle.bl_cut.proofs.MarkedPrograms.{loads_same, moved_same, sunk_same, written_same}
use Rattle.bl_cut.proofs.MarksAndPassing.{loads_back}

some_same : (P Q : Command → Type 0) (f : Command → Command) (o : Option Command) → ((command : Command) → P (f command) ↔ Q command) → IsSomeAnd (option_map f o) P ↔ IsSomeAnd o Q
some_same P Q f None same = (λ h. h, λ h. h)
some_same P Q f (Some command) same = same command

uses_same : (R S : ℕ → ℕ → Type 0) (uses : List Use) → ((s x : ℕ) → S s x ↔ R s x) → AreUses R uses → AreUses S uses
uses_same R S uses same is = record {
  each = λ s x. (λ h. (same s x).1 ((is.each s x).0 h), λ h. (is.each s x).1 ((same s x).0 h));
  rise = is.rise;
}

module _ (set : ℕ → Bool) (program : Program) where
  abbrev after : Program
  after = protected set program

  pub stands : (P Q : Command → Type 0) (s : ℕ) → ((b : Bool) (command : Command) → P (marked b command) ↔ Q command)
      → IsSomeAnd (command_at after s) P ↔ IsSomeAnd (command_at program s) Q
  stands P Q s same =
      subst (λ o. IsSomeAnd o P ↔ IsSomeAnd (command_at program s) Q) (sym (command_is set program s)) (some_same P Q (marked (set s)) (command_at program s) (same (set s)))

  pub writes_same : (s x : ℕ) → Writes after s x ↔ Writes program s x
  writes_same s x = stands (λ c. written_by after s c ≡ Some x) (λ c. written_by program s c ≡ Some x) s (λ b c.
      let same = written_same set program b s c in
      (subst (λ o. o ≡ Some x) same, subst (λ o. o ≡ Some x) (sym same)))

  pub reads_same : (s x : ℕ) → Reads after s x ↔ Reads program s x
  reads_same s x = stands (λ c. Among (moved_by c) x) (λ c. Among (moved_by c) x) s (λ b c.
      let same = moved_same b c in
      (subst (λ l. Among l x) same, subst (λ l. Among l x) (sym same)))

  pub sinks_same : (s x : ℕ) → SinkReads after s x ↔ SinkReads program s x
  sinks_same s x = stands (λ c. Among (sunk_by c) x) (λ c. Among (sunk_by c) x) s (λ b c.
      let same = sunk_same b c in
      (subst (λ l. Among l x) same, subst (λ l. Among l x) (sym same)))

  pub graph_same : (graph : Graph) → IsGraph program graph → IsGraph after graph
  graph_same graph is = record {
    loads = λ s.
        let load = stands Loads Loads s (λ b c. (loads_back b c, loads_same b c)) in
        (λ h. load.1 ((is.loads s).0 h), λ h. (is.loads s).1 (load.0 h));
    loads_rise = is.loads_rise;
    writes = uses_same (Writes program) (Writes after) graph.writes writes_same is.writes;
    reads = uses_same (Reads program) (Reads after) graph.reads reads_same is.reads;
    sinks = uses_same (SinkReads program) (SinkReads after) graph.sinks sinks_same is.sinks;
  }
