use Rattle.bl_graph.proofs.UseRows.{least_more}
use Rattle.bl_graph.proofs.reads.least_from.Goals as goal

pub loop-operand-preserved : goal.loop-operand-preserved
loop-operand-preserved c =
    least_more c.args.operands.now c.loop-operand.operand-index c.args.bound _ _ _ _ c.loop-operand-test.true c.loop-operand.invariant c.variable_from.ensures c.lower-least.ensures
