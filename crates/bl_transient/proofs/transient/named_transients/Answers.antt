use Rattle.std.proofs.Common.{◌≡◌, ◌∙◌, arith, ap, map, sym, subst}
use Rattle.std.specs.FinSet as fin
use Rattle.std.specs.List.{All, Contains}
use Rattle.bl_graph.specs.Names.{numbered, place_of}
use Rattle.bl_graph.proofs.NameLemmas.{few_names, reads_named}
use Rattle.bl_graph.proofs.AskedLists.{asked_back, asked_there, numbers_within}
use Rattle.bl_transient.specs.Verdicts.{asked_of}
use Rattle.bl_transient.proofs.NamedSearch.{marks_are, reads_within, written_within}
use Rattle.bl_transient.proofs.transient.named_transients.Goals as goal
use Rattle.bl_transient.proofs.transient.named_transients.Goals.{After-deref-3}

pub numbered-requires-clause-has : goal.numbered-requires-clause-has
numbered-requires-clause-has c =
    subst (λ l. All (λ u. Contains c.args.names.now u.var.0) l) (sym c.as_slice.ensures)
    (reads_named c.args.program.now c.args.graph.now c.args.names.now c.requires.graph c.requires.names)

pub len-requires : goal.len-requires
len-requires c = let lt = few_names c.args.program.now c.args.names.now c.ranges-2.ensures c.requires.names in omega arith

transients_are : (c : After-deref-3) → c.deref.result.now ≡ map (place_of c.args.names.now) c.args.asked.now.transient
transients_are c = c.deref.ensures.value ∙ c.in_ok-transient.ensures ∙ ap (map (place_of c.args.names.now)) c.as_slice-2.ensures

reads_are : (c : After-deref-3) → c.deref-2.result.now ≡ map (numbered c.args.names.now) c.args.graph.now.reads
reads_are c = c.deref-2.ensures.value ∙ c.in_ok-reads.ensures ∙ ap (map (numbered c.args.names.now)) c.as_slice.ensures

pub spread-requires-clause-transient : goal.spread-requires-clause-transient
spread-requires-clause-transient c =
    rw (c.len.ensures, transients_are (goal.at.spread-requires-clause-transient c).After-deref-3)
    (numbers_within c.args.names.now c.requires.names.rise c.args.asked.now.transient c.requires.transient)

pub spread-requires-clause-reads : goal.spread-requires-clause-reads
spread-requires-clause-reads c =
    rw (c.len.ensures, reads_are (goal.at.spread-requires-clause-reads c).After-deref-3)
    (reads_within c.args.program.now c.args.graph.now c.requires.graph c.args.names.now c.requires.names)

pub spread-requires-clause-written : goal.spread-requires-clause-written
spread-requires-clause-written c =
    rw (c.len.ensures, c.deref-3.ensures.value)
    (written_within c.args.program.now c.args.graph.now c.requires.graph c.args.names.now c.requires.names (fin.contains c.args.protects.now) c.in_ok-written.written.items c.in_ok-written.ensures)

pub returns-clause-exact : goal.returns-clause-exact
returns-clause-exact c =
    let before = (goal.at.returns-clause-exact c).After-deref-3 in
    marks_are c.args.program.now c.args.graph.now c.requires.graph c.args.names.now c.requires.names (fin.contains c.args.protects.now) c.in_ok-written.written.items c.in_ok-written.ensures
    (asked_of c.args.asked.now) (map (place_of c.args.names.now) c.args.asked.now.transient)
    (asked_back c.args.names.now c.requires.names.rise c.args.asked.now.transient c.requires.transient) (asked_there c.args.names.now c.requires.names.rise c.args.asked.now.transient c.requires.transient)
    c.in_ok-marks.marks.items (rw (transients_are before, reads_are before, c.deref-3.ensures.value, c.as_slice-loads.ensures) at c.in_ok-marks.ensures.exact)
