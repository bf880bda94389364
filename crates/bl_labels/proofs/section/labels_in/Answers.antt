use Rattle.bl_labels.proofs.FaultLemmas.{not_read, of_section}
use Rattle.bl_labels.proofs.section.labels_in.Goals as goal

pub returns-in-Ok : goal.returns-in-Ok
returns-in-Ok c = of_section c.args.wasm.now c.args.bytes.now c.in-Ok.entries c.as_slice.result.now c.judge.result c.in-Ok.ensures c.as_slice.ensures c.judge.ensures

pub returns-in-Err : goal.returns-in-Err
returns-in-Err c = not_read c.args.wasm.now c.args.bytes.now c.in-Err.error c.in-Err.ensures
