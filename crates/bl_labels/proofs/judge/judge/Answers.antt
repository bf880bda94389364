use Rattle.std.proofs.Common.{◌∙◌, sym}
use Rattle.bl_labels.proofs.FaultLemmas.{begins, goes_at, stops_at, whole}
use Rattle.bl_labels.proofs.judge.judge.Goals as goal

pub loop-entry-init : goal.loop-entry-init
loop-entry-init c = begins c.args.wasm.now c.args.entries.now c.none-marks.result c.none-marks.ensures

pub loop-entry-preserved : goal.loop-entry-preserved
loop-entry-preserved c =
    goes_at c.args.wasm.now c.args.entries.now c.loop-entry.entry-index c.loop-entry.marks c.in-Ok-with.more _ c.as_slice.result.now c.in-Ok.spaces c.as_slice.ensures c.in-Ok.ensures c.loop-entry.invariant c.loop-entry-test.true
    (sym c.fault.ensures ∙ c.in_default-fault.is) c.in-Ok-with.ensures

pub returns-in-Some : goal.returns-in-Some
returns-in-Some c =
    stops_at c.args.wasm.now c.args.entries.now c.loop-entry.entry-index c.loop-entry.marks _ c.as_slice.result.now c.in-Ok.spaces c.in-Some.error c.as_slice.ensures c.in-Ok.ensures c.loop-entry.invariant c.loop-entry-test.true
    (sym c.fault.ensures ∙ c.in-Some.is)

pub returns : goal.returns
returns c = whole c.args.wasm.now c.args.entries.now c.loop-entry.entry-index c.loop-entry.marks c.into_labels.result c.loop-entry.invariant c.loop-entry-test.false c.into_labels.ensures
