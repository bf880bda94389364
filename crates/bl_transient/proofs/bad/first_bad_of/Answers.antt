use Rattle.std.proofs.Common.{◌<◌, length}
use Rattle.std.specs.FinSet as fin
use Rattle.std.proofs.lemmas.Option.{slice_get_within}
use Rattle.bl_graph.proofs.ChainLemmas.{all_from}
use Rattle.bl_graph.proofs.AskedLists.{asked_in}
use Rattle.bl_transient.specs.Verdicts.{asked_of}
use Rattle.bl_transient.proofs.BarredUses.{first_bad, none_passes}
use Rattle.bl_transient.proofs.bad.first_bad_of.Goals as goal

pub first_sink-requires : goal.first_sink-requires
first_sink-requires c =
    rw (c.deref.ensures.value, c.in_ok-marks.ensures.places, c.deref-2.ensures.value)
    (all_from (λ u. u.var.0 < length c.in_ok-names.names) c.in_ok-uses.uses.items (λ u h.
    let found = c.in_ok-uses.ensures.sound u.at.0 u.var.0 h in
    slice_get_within c.in_ok-names.names u.var.0 found.0 found.1))

pub returns-in-Some : goal.returns-in-Some
returns-in-Some c =
    first_bad (asked_of c.args.asked.now) c.args.program.now c.in_ok-names.names (fin.contains c.args.protects.now) c.in_ok-uses.uses.items c.in_ok-uses.ensures
    c.in_ok-marks.marks.items c.in_ok-marks.ensures.exact c.in-Some.position (rw (c.deref.ensures.value, c.deref-2.ensures.value) at c.in-Some.ensures)

pub returns : goal.returns
returns c =
    none_passes (asked_of c.args.asked.now) c.args.program.now c.in_ok-names.names (fin.contains c.args.protects.now) c.in_ok-uses.uses.items c.in_ok-uses.ensures
    c.in_ok-marks.marks.items c.in_ok-marks.ensures.exact
    (λ x transient stable. c.requires.apart x (asked_in c.args.asked.now.transient x transient) (asked_in c.args.asked.now.stable x stable)) (rw (c.deref.ensures.value, c.deref-2.ensures.value) at c.in-None.ensures)
