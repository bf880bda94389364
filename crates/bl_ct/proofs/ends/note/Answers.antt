use Rattle.std.proofs.Common.{ℕ, List, take, ◌∙◌}
use Rattle.std.specs.List.{slice_index_or}
use Rattle.std.proofs.lemmas.List.{take_more}
use Rattle.bl_graph.specs.declared.facts.Use.{Use}
use Rattle.bl_graph.specs.Graphs.{use_of}
use Rattle.bl_ct.specs.SecretSearch.{IsTable}
use Rattle.bl_ct.proofs.EndTables.{note_more}
use Rattle.bl_ct.proofs.ends.note.Goals as goal

pub loop-item-preserved : goal.loop-item-preserved
loop-item-preserved c =
    let loop = c.loop-item in
    let lt = c.loop-item-test.true in
    let u : Use = slice_index_or c.args.uses.now loop.item-index (use_of 0 0) in
    let names : List ℕ = c.args.names.now in
    let table : IsTable names loop.ends.items = record { rise = c.requires.table.rise; places = loop.invariant.places ∙ c.requires.table.places } in
    rw (take_more c.args.uses.now loop.item-index (use_of 0 0) lt, c.number_of-place.ensures.is)
    (note_more names (take loop.item-index c.args.uses.now) u c.args.ends.now.items loop.ends.items table (c.requires.named loop.item-index (use_of 0 0) lt) loop.invariant)
