use Rattle.std.proofs.Common.{◌<◌, ◌∙◌, Some, None, ap, sym, subst, length}
use Rattle.std.specs.FinSet as fin
use Rattle.bl_transient.specs.Reachability.{flow_type}
use Rattle.bl_transient.proofs.TransientTypings.{sinks_within, least_typing, first_trans}
use Rattle.bl_transient.proofs.transient.flows_of.Goals as goal

pub first_sink-requires : goal.first_sink-requires
first_sink-requires c =
    rw c.as_slice.ensures
    (sinks_within c.args.program.now c.args.graph.now c.requires c.ranges-2.ensures (length c.deref.result.now) (ap length c.deref.ensures.value ∙ c.in_ok-marks.ensures.places))

pub returns-in-Some : goal.returns-in-Some
returns-in-Some c =
    first_trans c.args.program.now c.args.graph.now c.requires (fin.contains c.args.protects.now) c.in_ok-marks.marks.items c.in_ok-marks.ensures.exact c.in-Some.position
    (rw (c.deref.ensures.value, c.as_slice.ensures) at c.in-Some.ensures)

pub returns : goal.returns
returns c =
    least_typing c.args.program.now c.args.graph.now c.requires (fin.contains c.args.protects.now) c.in_ok-marks.marks.items c.in_ok-marks.ensures.exact c.in_ok-flows.flows
    (c.in_ok-flows.ensures ∙ ap (Rattle.std.proofs.Common.map flow_type) c.deref-2.ensures.value) c.in_ok-marks.ensures.places
    (rw (c.deref.ensures.value, c.as_slice.ensures) at c.in_default.ensures)
