use Rattle.std.proofs.Common.{◌≡◌, ℕ, length, sym, subst, ap, arith, ◌∙◌, map}
use Rattle.std.specs.FinSet as fin
use Rattle.std.specs.FinSet.{contains-empty}
use Rattle.std.specs.List.{Contains, slice_index_or}
use Rattle.std.proofs.lemmas.List.{length-map}
use Rattle.bl_graph.specs.Arcs.{rows_in}
use Rattle.bl_graph.specs.Graphs.{use_of}
use Rattle.bl_graph.specs.declared.facts.Use.{Use}
use Rattle.bl_ct.specs.SecretSearch.{from_name}
use Rattle.bl_ct.proofs.KnownRanges.{names_few, names_rise, writes_in, reads_in}
use Rattle.bl_ct.proofs.ReadRows.{elem, arcs_within, reader_rows}
use Rattle.bl_ct.proofs.WrittenVariables.{one_write, written_is}
use Rattle.bl_ct.proofs.search.secret_variables.Goals as goal
use Rattle.bl_ct.proofs.search.secret_variables.Goals.{After-deref}

pub written_free-requires-clause-within : goal.written_free-requires-clause-within
written_free-requires-clause-within c = λ k d lt.
    let u : Use = slice_index_or c.as_slice-writes.result.now k d in
    let inside = (writes_in c.args.known.now c.requires u (elem c.as_slice-writes.result.now c.args.known.now.graph.now.writes c.as_slice-writes.ensures k d lt)).0 in
    let count = c.command_count-count.ensures in
    omega arith

pub written_free-requires-clause-one : goal.written_free-requires-clause-one
written_free-requires-clause-one c =
    subst (λ l. (s x y : ℕ) → Contains l (use_of s x) → Contains l (use_of s y) → x ≡ y) (sym c.as_slice-writes.ensures) (one_write c.args.known.now c.requires)

pub name_arcs-requires-clause-rise : goal.name_arcs-requires-clause-rise
name_arcs-requires-clause-rise c = names_rise c.args.known.now c.requires

pub name_arcs-requires-clause-named : goal.name_arcs-requires-clause-named
name_arcs-requires-clause-named c = λ k d lt.
    (reads_in c.args.known.now c.requires (slice_index_or c.as_slice.result.now k d)
    (elem c.as_slice.result.now c.args.known.now.graph.now.reads c.as_slice.ensures k d lt)).1

pub len-requires : goal.len-requires
len-requires c = names_few c.args.known.now c.requires

arcs_are : (c : After-deref) → c.deref.result.now ≡ map (from_name c.args.known.now.names.now) c.args.known.now.graph.now.reads
arcs_are c = c.deref.ensures.value ∙ c.in_ok-arcs.ensures ∙ ap (map (from_name c.args.known.now.names.now)) c.as_slice.ensures

pub rows_of-requires : goal.rows_of-requires
rows_of-requires c = arcs_within c.args.known.now c.requires c.deref.result.now c.len.result (arcs_are (goal.at.rows_of-requires c).After-deref) c.len.ensures

pub search-requires-clause-places : goal.search-requires-clause-places
search-requires-clause-places c = ap length c.deref-2.ensures.value ∙ (c.in_ok-readers.ensures.places ∙ c.len.ensures)

pub search-requires-clause-reads : goal.search-requires-clause-reads
search-requires-clause-reads c =
    rw c.deref-2.ensures.value
    (reader_rows c.args.known.now c.requires c.deref.result.now (rows_in c.in_ok-readers.readers.items) (length-map c.in_ok-readers.readers.items (λ row. row.items) ∙ (c.in_ok-readers.ensures.places ∙ c.len.ensures))
    (arcs_are (goal.at.search-requires-clause-reads c).After-deref) c.in_ok-readers.ensures.rows)

pub search-requires-clause-writes : goal.search-requires-clause-writes
search-requires-clause-writes c =
    rw c.deref-3.ensures.value
    (written_is c.args.known.now c.requires c.in_ok-written.written.items (fin.contains fin.empty) (contains-empty _) (rw (c.as_slice-writes.ensures, c.new-nowhere.ensures) at c.in_ok-written.ensures))
