use Rattle.std.proofs.Common.{length, arith, ap, refl}
use Rattle.bl_program.specs.Sites.{is_protected}
use Rattle.bl_program.specs.declared.definitions.ProgramParts.{ProgramParts}
use Rattle.bl_program.proofs.Totals.{weight_next}
use Rattle.bl_witness.proofs.protects.protect_weight.Goals as goal

pub overflow_add-total : goal.overflow_add-total
overflow_add-total c =
    let same = ap (λ (p : ProgramParts). length p.commands) c.parts-parts.ensures.same in
    let also = ap (λ (p : ProgramParts). length p.commands) c.program.ensures.same in
    let next = (weight_next c.args.program.now c.args.program.now (is_protected c.args.program.now) c.loop-at.at c.loop-at.total c.weight_within-total.result
    refl c.program.ensures.rules (omega arith) c.loop-at.invariant c.weight_within-total.ensures).1 in
    omega arith

pub loop-at-preserved : goal.loop-at-preserved
loop-at-preserved c =
    let same = ap (λ (p : ProgramParts). length p.commands) c.parts-parts.ensures.same in
    let also = ap (λ (p : ProgramParts). length p.commands) c.program.ensures.same in
    (weight_next c.args.program.now c.args.program.now (is_protected c.args.program.now) c.loop-at.at c.loop-at.total c.weight_within-total.result
    refl c.program.ensures.rules (omega arith) c.loop-at.invariant c.weight_within-total.ensures).0
