use Rattle.std.proofs.Common.{List, ℕ, length, arith, subst, ap, ◌∙◌, replicate, None}
use Rattle.std.specs.List.{slice_index_or, Contains}
use Rattle.bl_graph.specs.declared.facts.Use.{Use}
use Rattle.bl_ct.specs.SecretSearch.{MarksWriters, KeptAt, IsNoted}
use Rattle.bl_ct.proofs.KnownRanges.{names_few, names_rise, writes_in, reads_in, sinks_in, stores_in}
use Rattle.bl_ct.proofs.ReadRows.{elem}
use Rattle.bl_ct.proofs.EndTables.{ends_are, none_length}
use Rattle.bl_ct.proofs.ends.ends_of.Goals as goal

pub giving_sites-requires-clause-table : goal.giving_sites-requires-clause-table
giving_sites-requires-clause-table c = record { rise = names_rise c.args.known.now c.requires.is; places = c.requires.places }

pub giving_sites-requires-clause-sites : goal.giving_sites-requires-clause-sites
giving_sites-requires-clause-sites c = λ k d lt.
    let u : Use = slice_index_or c.as_slice-writes.result.now k d in
    let inside = (writes_in c.args.known.now c.requires.is u (elem c.as_slice-writes.result.now c.args.known.now.graph.now.writes c.as_slice-writes.ensures k d lt)).0 in
    let count = c.command_count-count.ensures in
    omega arith

pub giving_sites-requires-clause-named : goal.giving_sites-requires-clause-named
giving_sites-requires-clause-named c = λ k d lt.
    (writes_in c.args.known.now c.requires.is (slice_index_or c.as_slice-writes.result.now k d)
    (elem c.as_slice-writes.result.now c.args.known.now.graph.now.writes c.as_slice-writes.ensures k d lt)).1

pub uses_at-requires : goal.uses_at-requires
uses_at-requires c = λ k d lt.
    let u : Use = slice_index_or c.as_slice.result.now k d in
    let inside = (reads_in c.args.known.now c.requires.is u (elem c.as_slice.result.now c.args.known.now.graph.now.reads c.as_slice.ensures k d lt)).0 in
    let places = c.in_ok-giving.ensures.places in
    let value = ap length c.deref.ensures.value in
    let count = c.command_count-count.ensures in
    omega arith

pub len-requires : goal.len-requires
len-requires c = names_few c.args.known.now c.requires.is

pub note-requires-clause-table : goal.note-requires-clause-table
note-requires-clause-table c = record {
  rise = names_rise c.args.known.now c.requires.is;
  places = none_length c.in_ok-ends.ends.items c.len.result c.in_ok-ends.ensures ∙ c.len.ensures;
}

pub note-requires-clause-named : goal.note-requires-clause-named
note-requires-clause-named c = λ k d lt.
    sinks_in c.args.known.now c.requires.is (slice_index_or c.as_slice-2.result.now k d)
    (elem c.as_slice-2.result.now c.args.known.now.graph.now.sinks c.as_slice-2.ensures k d lt)

pub note-requires-2-clause-table : goal.note-requires-2-clause-table
note-requires-2-clause-table c = record {
  rise = names_rise c.args.known.now c.requires.is;
  places = c.note.ensures.places ∙ (none_length c.in_ok-ends.ends.items c.len.result c.in_ok-ends.ensures ∙ c.len.ensures);
}

pub note-requires-2-clause-named : goal.note-requires-2-clause-named
note-requires-2-clause-named c = λ k d lt.
    stores_in c.args.known.now c.requires.is (slice_index_or c.as_slice-3.result.now k d)
    (elem c.as_slice-3.result.now c.args.known.now.facts.now.stores c.as_slice-3.ensures k d lt)

pub note-requires-3-clause-table : goal.note-requires-3-clause-table
note-requires-3-clause-table c = record {
  rise = names_rise c.args.known.now c.requires.is;
  places = c.note-2.ensures.places ∙ (c.note.ensures.places ∙ (none_length c.in_ok-ends.ends.items c.len.result c.in_ok-ends.ensures ∙ c.len.ensures));
}

pub note-requires-3-clause-named : goal.note-requires-3-clause-named
note-requires-3-clause-named c = λ k d lt.
    let u : Use = slice_index_or c.deref-2.result.now k d in
    let there = (c.in_ok-last_reads.ensures u).0 (elem c.deref-2.result.now c.in_ok-last_reads.last_reads.items c.deref-2.ensures.value k d lt) in
    (reads_in c.args.known.now c.requires.is u (subst (λ l. Contains l u) c.as_slice.ensures there.0)).1

pub returns : goal.returns
returns c =
    let names : List ℕ = c.args.known.now.names.now in
    ends_are c.args.known.now.program.now c.args.known.now.graph.now c.requires.is.graph c.args.known.now.facts.now c.requires.is.facts names c.args.demanded.now c.in_ok-giving.giving.items c.in_ok-last_reads.last_reads.items c.in_ok-ends.ends.items c.note.new.ends.items c.note-2.new.ends.items c.note-3.new.ends.items c.requires.exact
    (subst (λ l. MarksWriters l names c.args.demanded.now c.in_ok-giving.giving.items) c.as_slice-writes.ensures c.in_ok-giving.ensures.exact)
    (subst (λ m. KeptAt c.args.known.now.graph.now.reads m c.in_ok-last_reads.last_reads.items) c.deref.ensures.value (subst (λ l. KeptAt l c.deref.result.now c.in_ok-last_reads.last_reads.items) c.as_slice.ensures c.in_ok-last_reads.ensures))
    (c.in_ok-ends.ensures ∙ ap (λ n. replicate n None) c.len.ensures)
    (subst (λ l. IsNoted names l c.in_ok-ends.ends.items c.note.new.ends.items) c.as_slice-2.ensures c.note.ensures)
    (subst (λ l. IsNoted names l c.note.new.ends.items c.note-2.new.ends.items) c.as_slice-3.ensures c.note-2.ensures)
    (subst (λ l. IsNoted names l c.note-2.new.ends.items c.note-3.new.ends.items) c.deref-2.ensures.value c.note-3.ensures)
