use Rattle.std.proofs.Common.{◌≡◌, ◌+◌, ◌++◌, ◌∷◌, [], true, take, arith, subst, sym, ap, ◌∙◌}
use Rattle.std.specs.List.{slice_index_or}
use Rattle.std.proofs.lemmas.List.{take_more, take_all, length-set}
use Rattle.bl_graph.specs.declared.facts.Use.{Use}
use Rattle.bl_graph.specs.Arcs.{is_in}
use Rattle.bl_graph.specs.Graphs.{use_of}
use Rattle.bl_ct.specs.SecretSearch.{MarksWriters, mark_of}
use Rattle.bl_ct.proofs.EndTables.{gives_yes, gives_no}
use Rattle.bl_ct.proofs.ends.giving_sites.Goals as goal
use Rattle.bl_ct.proofs.ends.giving_sites.Goals.{then-demanded-place, else-demanded-place}

pub loop-write-preserved : goal.loop-write-preserved
loop-write-preserved c =
    let loop = c.loop-write in
    let lt = c.loop-write-test.true in
    let u : Use = slice_index_or c.args.writes.now loop.write-index (use_of 0 0) in
    let more : take (loop.write-index + 1) c.args.writes.now ≡ take loop.write-index c.args.writes.now ++ u ∷ [] = take_more c.args.writes.now loop.write-index (use_of 0 0) lt in
    let below = c.requires.sites loop.write-index (use_of 0 0) lt in
    let places = loop.invariant.places in
    let marked : mark_of c.args.names.now c.args.demanded.now u.var.0 ≡ is_in c.args.demanded.now c.number_of-place.result =
    ap (is_in c.args.demanded.now) (sym c.number_of-place.ensures.is) in
    elim c.if-demanded-place.branch [
      | then-demanded-place w ↦ rw (more, w.giving-is) (record { places = length-set loop.giving.items u.at.0 true ∙ places; exact = gives_yes (take loop.write-index c.args.writes.now) c.args.names.now c.args.demanded.now loop.giving.items u (omega arith) (marked ∙ w.if-demanded-place.true) loop.invariant.exact })
      | else-demanded-place w ↦ rw (more, w.giving-is) (record { places = places; exact = gives_no (take loop.write-index c.args.writes.now) c.args.names.now c.args.demanded.now loop.giving.items u (marked ∙ w.if-demanded-place.false) loop.invariant.exact })
    ]

pub returns-clause-exact : goal.returns-clause-exact
returns-clause-exact c =
    let past = c.loop-write-test.false in
    subst (λ l. MarksWriters l c.args.names.now c.args.demanded.now c.loop-write.giving.items) (take_all c.loop-write.write-index c.args.writes.now (omega arith)) c.loop-write.invariant.exact
