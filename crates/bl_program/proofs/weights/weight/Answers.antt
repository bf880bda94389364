use Rattle.std.proofs.Common.{◌∙◌, ℕ, arith}
use Rattle.std.specs.FinSet as fin
use Rattle.bl_program.proofs.Totals.{weight_next}
use Rattle.bl_program.proofs.weights.weight.Goals as goal

pub overflow_add-total : goal.overflow_add-total
overflow_add-total c =
    let next = (weight_next c.args.program.now c.parts-parts.result.now (λ (s : ℕ). fin.contains c.args.protects.now s) c.loop-at.at c.loop-at.total c.weight_within-total.result
    (c.parts-parts.ensures.same ∙ c.program.ensures.same) c.program.ensures.rules (omega arith) c.loop-at.invariant c.weight_within-total.ensures).1 in
    omega arith

pub loop-at-preserved : goal.loop-at-preserved
loop-at-preserved c =
    (weight_next c.args.program.now c.parts-parts.result.now (λ (s : ℕ). fin.contains c.args.protects.now s) c.loop-at.at c.loop-at.total c.weight_within-total.result
    (c.parts-parts.ensures.same ∙ c.program.ensures.same) c.program.ensures.rules (omega arith) c.loop-at.invariant c.weight_within-total.ensures).0
