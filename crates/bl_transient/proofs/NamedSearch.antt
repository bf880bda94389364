-- The search over names finds the transient variables.
use Rattle.std.proofs.Common.{◌≡◌, ℕ, ◌<◌, Bool, List, length, not, map, Option, Some, None, slice_get, sym, ap, subst, ◌∙◌, arith}
use Rattle.std.specs.Prelude.{IsTrue, ◌↔◌}
use Rattle.std.specs.List.{Contains, All}
use Rattle.std.proofs.lemmas.Option.{slice_get_within, same_Some}
use Rattle.bl_program.specs.Sites.{SinkReads, Writes}
use Rattle.bl_program.specs.declared.definitions.ProgramParts.{ProgramParts as Program}
use Rattle.bl_graph.specs.Graphs.{use_of, IsGraph}
use Rattle.bl_graph.specs.Ranges.{commands, AreInRange}
use Rattle.bl_graph.specs.declared.facts.Graph.{Graph}
use Rattle.bl_graph.specs.declared.facts.Use.{Use}
use Rattle.bl_graph.specs.Arcs.{is_in}
use Rattle.bl_graph.proofs.ChainLemmas.{all_from}
use Rattle.bl_graph.proofs.RangeLemmas.{writes_one}
use Rattle.bl_graph.specs.Names.{AreNames, place_of, numbered}
use Rattle.bl_graph.specs.WrittenVariables.{AreUnprotected, noted}
use Rattle.bl_transient.specs.Reachability.{FirstSink, Spread, begun, filled, led}
use Rattle.bl_transient.specs.Transient.{Asked, Passes, Trans, TransUnder, loaded, moved, given}
use Rattle.bl_transient.specs.Verdicts.{IsFirstSink}
use Rattle.bl_graph.proofs.NameLemmas.{uses_are, at_place, place_back, reads_named, sinks_named, writes_named}
use Rattle.bl_transient.proofs.LeastTypings.{passes_if}

module _ (program : Program) (g : Graph) (lists : IsGraph program g) (names : List ℕ) (named : AreNames program names) where
  abbrev pub writes : List Use
  writes = map (numbered names) g.writes

  abbrev pub reads : List Use
  reads = map (numbered names) g.reads

  abbrev pub sinks : List Use
  sinks = map (numbered names) g.sinks

  pub writes_within : AreInRange program → (n : ℕ) → n ≡ commands program → All (λ w. w.at.0 < n) writes
  writes_within is n e = all_from (λ w. w.at.0 < n) writes (λ w h.
      let old = (uses_are names named.rise g.writes (writes_named program g names lists named) w.at.0 w.var.0).0 h in
      let lt = is.sites w.at.0 (is.writes w.at.0 old.0 ((lists.writes.each w.at.0 old.0).0 old.2)).0 in omega arith)

  pub one_write : (s i j : ℕ) → Contains writes (use_of s i) → Contains writes (use_of s j) → i ≡ j
  one_write s i j h k =
      let one = (uses_are names named.rise g.writes (writes_named program g names lists named) s i).0 h in
      let other = (uses_are names named.rise g.writes (writes_named program g names lists named) s j).0 k in
      let same = writes_one program s one.0 other.0 ((lists.writes.each s one.0).0 one.2) ((lists.writes.each s other.0).0 other.2) in
      place_back names i one.0 named.rise one.1 ∙ ap (place_of names) same ∙ sym (place_back names j other.0 named.rise other.1)

  module _ (set : ℕ → Bool) (written : List (Option ℕ)) (free : AreUnprotected writes set written) where
    pub free_back : (s i : ℕ) → noted written s ≡ Some i → (x : ℕ) × (slice_get names i ≡ Some x) × Contains g.writes (use_of s x)
    free_back s i e = (uses_are names named.rise g.writes (writes_named program g names lists named) s i).0 ((free.each s i).0 e).0

    pub read_back : (s i : ℕ) → Contains reads (use_of s i) → (x : ℕ) × (slice_get names i ≡ Some x) × Contains g.reads (use_of s x)
    read_back s i h = (uses_are names named.rise g.reads (reads_named program g names lists named) s i).0 h

    pub written_within : (s i : ℕ) → noted written s ≡ Some i → i < length names
    written_within s i e = let x = free_back s i e in slice_get_within names i x.0 x.1

    -- with variables that are asked to be transient
    module _ (asked : Asked) (transients : List ℕ) (back : (i : ℕ) → Contains transients i → (x : ℕ) × (slice_get names i ≡ Some x) × IsTrue (asked.transient x))
        (there : (i x : ℕ) → slice_get names i ≡ Some x → IsTrue (asked.transient x) → Contains transients i) where
      spread_trans : (i : ℕ) → Spread written transients g.loads reads i → (x : ℕ) × (slice_get names i ≡ Some x) × TransUnder asked program set x
      spread_trans i (begun _ transient) = let x = back i transient in (x.0, x.1, given x.0 x.2)
      spread_trans i (filled s _ load e) =
          let x = free_back s i e in
          (x.0, x.1, loaded s x.0 ((lists.loads s).0 load) ((lists.writes.each s x.0).0 x.2) ((free.each s i).0 e).1)
      spread_trans i (led s u _ read e before) =
          let x = free_back s i e in
          let y = read_back s u read in
          let t = spread_trans u before in
          let same : t.0 ≡ y.0 = same_Some t.0 y.0 (sym t.1 ∙ y.1) in
          (x.0, x.1, moved s y.0 x.0 ((lists.reads.each s y.0).0 y.2) ((lists.writes.each s x.0).0 x.2) ((free.each s i).0 e).1 (subst (TransUnder asked program set) same t.2))

      wrote : (s x i : ℕ) → slice_get names i ≡ Some x → Writes program s x → IsTrue (not (set s)) → noted written s ≡ Some i
      wrote s x i e writes_ may = (free.each s i).1 ((uses_are names named.rise g.writes (writes_named program g names lists named) s i).1 (x, e, (lists.writes.each s x).1 writes_), may)

      trans_spread : (x : ℕ) → TransUnder asked program set x → (i : ℕ) → slice_get names i ≡ Some x → Spread written transients g.loads reads i
      trans_spread x (loaded s _ load writes_ may) i e = filled s i ((lists.loads s).1 load) (wrote s x i e writes_ may)
      trans_spread x (moved s y _ read writes_ may t) i e =
          let at = at_place names y named.rise (named.reads s y read) in
          led s (place_of names y) i ((uses_are names named.rise g.reads (reads_named program g names lists named) s (place_of names y)).1 (y, at, (lists.reads.each s y).1 read))
          (wrote s x i e writes_ may) (trans_spread y t (place_of names y) at)
      trans_spread x (given _ transient) i e = begun i (there i x e transient)

      pub marks_are : (marks : List Bool) → ((i : ℕ) → IsTrue (is_in marks i) ↔ Spread written transients g.loads reads i)
          → (i x : ℕ) → slice_get names i ≡ Some x → IsTrue (is_in marks i) ↔ TransUnder asked program set x
      marks_are marks exact i x e = (
        (λ h. let t = spread_trans i ((exact i).0 h) in subst (TransUnder asked program set) (same_Some t.0 x (sym t.1 ∙ e)) t.2),
        (λ t. (exact i).1 (trans_spread x t i e)),
      )

  pub reads_within : All (λ r. r.var.0 < length names) reads
  reads_within = all_from (λ r. r.var.0 < length names) reads (λ r h.
      let x = (uses_are names named.rise g.reads (reads_named program g names lists named) r.at.0 r.var.0).0 h in
      slice_get_within names r.var.0 x.0 x.1)

  pub sinks_within : All (λ s. s.var.0 < length names) sinks
  sinks_within = all_from (λ s. s.var.0 < length names) sinks (λ s h.
      let x = (uses_are names named.rise g.sinks (sinks_named program g names lists named) s.at.0 s.var.0).0 h in
      slice_get_within names s.var.0 x.0 x.1)

  module _ (set : ℕ → Bool) (marks : List Bool) (exact : (i x : ℕ) → slice_get names i ≡ Some x → IsTrue (is_in marks i) ↔ Trans program set x) where
    sink_there : (position x : ℕ) → SinkReads program position x → (i : ℕ) × (slice_get names i ≡ Some x) × Contains sinks (use_of position i)
    sink_there position x sink =
        let there = (lists.sinks.each position x).1 sink in
        let at = at_place names x named.rise (named.sinks position x sink) in
        (place_of names x, at, (uses_are names named.rise g.sinks (sinks_named program g names lists named) position (place_of names x)).1 (x, at, there))

    pub first_leak : (position : ℕ) → FirstSink marks sinks (Some position) → IsFirstSink program set position
    first_leak position first =
        let x = (uses_are names named.rise g.sinks (sinks_named program g names lists named) position first.var).0 first.sink in
        record {
          var = x.0;
          sink = (lists.sinks.each position x.0).0 x.2;
          transient = (exact first.var x.0 x.1).0 first.transient;
          least = λ other y sink t. let there = sink_there other y sink in first.least other there.0 there.2 ((exact there.0 y there.1).1 t);
        }

    pub no_leak : FirstSink marks sinks None → Passes program set
    no_leak none = passes_if program set (λ position x sink t. let there = sink_there position x sink in none position there.0 there.2 ((exact there.0 x there.1).1 t))
