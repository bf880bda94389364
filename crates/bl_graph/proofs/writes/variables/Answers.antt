use Rattle.std.proofs.Common.{◌∙◌, ap, arith}
use Rattle.bl_program.specs.declared.definitions.ProgramParts.{ProgramParts}
use Rattle.bl_program.proofs.VariableSums.{one_more, fits_more}
use Rattle.bl_graph.proofs.writes.variables.Goals as goal

pub overflow_add-count-in-loop-function : goal.overflow_add-count-in-loop-function
overflow_add-count-in-loop-function c =
    let lt = fits_more c.args.program.now c.as_slice-function-items.result.now c.loop-function.function-index c.loop-function.count c.function-item.result c.program.ensures.rules.rule2
    (c.as_slice-function-items.ensures ∙ ap (λ (p : ProgramParts). p.functions) (c.parts-parts.ensures.same ∙ c.program.ensures.same)) c.loop-function-test.true c.function-item.is c.loop-function.invariant in
    omega arith

pub loop-function-preserved : goal.loop-function-preserved
loop-function-preserved c =
    one_more c.args.program.now c.as_slice-function-items.result.now c.loop-function.function-index c.loop-function.count c.function-item.result
    (c.as_slice-function-items.ensures ∙ ap (λ (p : ProgramParts). p.functions) (c.parts-parts.ensures.same ∙ c.program.ensures.same)) c.loop-function-test.true c.function-item.is c.loop-function.invariant
