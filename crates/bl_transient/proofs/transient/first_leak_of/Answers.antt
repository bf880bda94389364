use Rattle.std.proofs.Common.{◌≡◌, ◌∙◌, ap, map, sym, subst}
use Rattle.std.specs.FinSet as fin
use Rattle.std.specs.List.{All, Contains}
use Rattle.bl_graph.specs.Names.{numbered}
use Rattle.bl_graph.proofs.NameLemmas.{sinks_named}
use Rattle.bl_transient.proofs.NamedSearch.{sinks_within, first_leak, no_leak}
use Rattle.bl_transient.proofs.transient.first_leak_of.Goals as goal
use Rattle.bl_transient.proofs.transient.first_leak_of.Goals.{After-deref-2}

pub numbered-requires-clause-has : goal.numbered-requires-clause-has
numbered-requires-clause-has c =
    subst (λ l. All (λ u. Contains c.in_ok-names.names u.var.0) l) (sym c.as_slice.ensures)
    (sinks_named c.args.program.now c.args.graph.now c.in_ok-names.names c.requires c.in_ok-names.ensures.names)

sinks_are : (c : After-deref-2) → c.deref-2.result.now ≡ map (numbered c.in_ok-names.names) c.args.graph.now.sinks
sinks_are c = c.deref-2.ensures.value ∙ c.in_ok-sinks.ensures ∙ ap (map (numbered c.in_ok-names.names)) c.as_slice.ensures

pub first_sink-requires : goal.first_sink-requires
first_sink-requires c =
    rw (c.deref.ensures.value, c.in_ok-marks.ensures.places, sinks_are c) (sinks_within c.args.program.now c.args.graph.now c.requires c.in_ok-names.names c.in_ok-names.ensures.names)

pub returns-in-Some : goal.returns-in-Some
returns-in-Some c =
    first_leak c.args.program.now c.args.graph.now c.requires c.in_ok-names.names c.in_ok-names.ensures.names (fin.contains c.args.protects.now) c.in_ok-marks.marks.items
    (rw c.nothing-asked.ensures at c.in_ok-marks.ensures.exact) c.in-Some.position (rw (c.deref.ensures.value, sinks_are (goal.at.returns-in-Some c).After-deref-2) at c.in-Some.ensures)

pub returns : goal.returns
returns c =
    no_leak c.args.program.now c.args.graph.now c.requires c.in_ok-names.names c.in_ok-names.ensures.names (fin.contains c.args.protects.now) c.in_ok-marks.marks.items
    (rw c.nothing-asked.ensures at c.in_ok-marks.ensures.exact) (rw (c.deref.ensures.value, sinks_are (goal.at.returns c).After-deref-2) at c.in-None.ensures)
