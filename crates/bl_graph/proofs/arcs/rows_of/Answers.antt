use Rattle.std.proofs.Common.{◌≡◌, ◌<◌, ◌+◌, ◌++◌, ◌∷◌, [], List, length, take, arith, sym, subst, ap, ◌∙◌, set}
use Rattle.std.specs.List.{slice_index_or}
use Rattle.std.proofs.lemmas.List.{take_more, length-set, length-map, map-set, get_or-map}
use Rattle.bl_graph.specs.Arcs.{RowsOf, rows_in, row_at}
use Rattle.bl_graph.specs.declared.arcs.Arc.{Arc}
use Rattle.bl_graph.proofs.ArcRows.{row_yes}
use Rattle.bl_graph.proofs.arcs.rows_of.Goals as goal

pub loop-arc-preserved : goal.loop-arc-preserved
loop-arc-preserved c =
    let loop = c.loop-arc in
    let lt = c.loop-arc-test.true in
    let arc : Arc = slice_index_or c.args.arcs.now loop.arc-index (record { from = 0; to = 0 }) in
    let more : take (loop.arc-index + 1) c.args.arcs.now ≡ take loop.arc-index c.args.arcs.now ++ arc ∷ [] = take_more c.args.arcs.now loop.arc-index (record { from = 0; to = 0 }) lt in
    let inside = c.requires loop.arc-index (record { from = 0; to = 0 }) lt in
    let places = loop.invariant.places in
    let old : List Arc = take loop.arc-index c.args.arcs.now in
    let within : arc.from < length loop.rows.items = omega arith in
    let long = length-map loop.rows.items (λ r. r.items) in
    let new : c.push.new.self.items ≡ row_at (rows_in loop.rows.items) arc.from ++ arc.to ∷ [] =
    c.in_ok-push.ensures.items ∙ ap (λ r. r ++ arc.to ∷ []) (ap (λ r. r.items) c.index_mut.ensures.value ∙ sym (get_or-map (λ r. r.items) loop.rows.items arc.from c.index_mut.result.now [] within)) in
    rw more (record {
      places = length-set loop.rows.items arc.from c.push.new.self ∙ places;
      rows = subst (RowsOf (old ++ arc ∷ [])) (sym (map-set (λ r. r.items) loop.rows.items arc.from c.push.new.self ∙ ap (set (rows_in loop.rows.items) arc.from) new))
          (row_yes old (rows_in loop.rows.items) loop.invariant.rows arc (omega arith));
    })
