use Rattle.std.proofs.Common.{◌∙◌, arith}
use Rattle.bl_program.proofs.WeightSums.{weight_more}
use Rattle.bl_iface.proofs.limits.weight_of.Goals as goal

pub overflow_add-total : goal.overflow_add-total
overflow_add-total c =
    let more = (weight_more c.args.program.now c.parts-parts.result.now c.loop-at.at c.loop-at.total c.site_weight-total.result (c.parts-parts.ensures.same ∙ c.program.ensures.same) c.program.ensures.rules
    (omega arith) c.loop-at.invariant c.site_weight-total.ensures.weight).1 in
    omega arith
