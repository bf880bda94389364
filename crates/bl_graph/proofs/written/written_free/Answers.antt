use Rattle.std.proofs.Common.{◌∙◌, Bool, ℕ, length, ap, sym, subst, arith}
use Rattle.std.specs.FinSet as fin
use Rattle.std.specs.List.{slice_index_or}
use Rattle.std.proofs.lemmas.Bool.{not_from_false}
use Rattle.std.proofs.lemmas.List.{take_all, length-set, length-replicate}
use Rattle.bl_graph.specs.Graphs.{use_of}
use Rattle.bl_graph.specs.WrittenVariables.{AreUnprotected}
use Rattle.bl_graph.proofs.WrittenTables.{free_none, free_no, free_yes}
use Rattle.bl_graph.proofs.written.written_free.Goals as goal
use Rattle.bl_graph.proofs.written.written_free.Goals.{then-not-contains, else-not-contains}

pub loop-write-init : goal.loop-write-init
loop-write-init c = record {
  places = ap length c.in_ok-written.ensures ∙ length-replicate c.args.count _;
  free = free_none c.args.writes.now (fin.contains c.args.protects.now) c.args.count c.in_ok-written.written.items c.in_ok-written.ensures;
}

pub loop-write-preserved : goal.loop-write-preserved
loop-write-preserved c =
    let loop = c.loop-write in
    let chosen : ℕ → Bool = fin.contains c.args.protects.now in
    let lt = c.loop-write-test.true in
    let inside = c.requires.within loop.write-index (use_of 0 0) lt in
    let places = loop.invariant.places in
    elim c.if-not-contains.branch [
      | then-not-contains w ↦
          rw (w.written-is) (record {
            places = length-set loop.written.items (slice_index_or c.args.writes.now loop.write-index (use_of 0 0)).at.0 _ ∙ places;
            free = free_yes c.args.writes.now chosen loop.write-index (use_of 0 0) lt loop.written.items loop.invariant.free
                (not_from_false (chosen (slice_index_or c.args.writes.now loop.write-index (use_of 0 0)).at.0) (sym c.contains.ensures ∙ w.if-not-contains.true)) (omega arith) c.requires.one;
          })
      | else-not-contains w ↦
          rw (w.written-is) (record {
            places = places;
            free = free_no c.args.writes.now chosen loop.write-index (use_of 0 0) lt loop.written.items loop.invariant.free (sym c.contains.ensures ∙ w.if-not-contains.false);
          })
    ]

pub returns : goal.returns
returns c =
    subst (λ l. AreUnprotected l (fin.contains c.args.protects.now) c.loop-write.written.items) (take_all c.loop-write.write-index c.args.writes.now c.loop-write-test.false) c.loop-write.invariant.free
