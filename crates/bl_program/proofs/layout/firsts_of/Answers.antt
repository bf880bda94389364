use Rattle.std.proofs.Common.{arith}
use Rattle.bl_program.proofs.ValueLists.{values_next}
use Rattle.bl_program.proofs.VariableSums.{fits_more, one_more}
use Rattle.bl_program.proofs.layout.firsts_of.Goals as goal

pub overflow_add-first-in-loop-function : goal.overflow_add-first-in-loop-function
overflow_add-first-in-loop-function c =
    let fits = fits_more c.args.parts.now c.as_slice-function-items.result.now c.loop-function.function-index c.loop-function.first c.function-item.result c.requires
    c.as_slice-function-items.ensures c.loop-function-test.true c.function-item.is c.loop-function.invariant.last in
    omega arith

pub loop-function-preserved : goal.loop-function-preserved
loop-function-preserved c =
    let last = one_more c.args.parts.now c.as_slice-function-items.result.now c.loop-function.function-index c.loop-function.first c.function-item.result
    c.as_slice-function-items.ensures c.loop-function-test.true c.function-item.is c.loop-function.invariant.last in
    record { values = values_next _ _ _ _ _ c.in_ok-push-2.ensures.ok c.loop-function.invariant.values last; last = last }
