use Rattle.std.proofs.Common.{arith}
use Rattle.bl_wasm.specs.Validity.{global_of}
use Rattle.bl_labels.proofs.CountLemmas.{all, at_most_one, begins, goes_on}
use Rattle.bl_labels.proofs.spaces.imported_globals.Goals as goal

pub loop-entry-init : goal.loop-entry-init
loop-entry-init c = begins global_of c.args.imports.now

pub overflow_add-count : goal.overflow_add-count
overflow_add-count c = omega (arith, c.loop-entry.invariant.few, at_most_one (global_of c.entry-item.result.kind), c.globals_in-count.ensures)

pub loop-entry-preserved : goal.loop-entry-preserved
loop-entry-preserved c = goes_on global_of c.args.imports.now c.loop-entry.entry-index c.loop-entry.count c.entry-item.result c.globals_in-count.result c.loop-entry-test.true c.entry-item.is c.globals_in-count.ensures c.loop-entry.invariant

pub returns : goal.returns
returns c =
    let whole = all global_of c.args.imports.now c.loop-entry.entry-index c.loop-entry.count c.loop-entry-test.false c.loop-entry.invariant in
    record { count = whole.is; few = whole.few }
