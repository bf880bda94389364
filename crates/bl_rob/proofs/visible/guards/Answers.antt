use Rattle.std.proofs.Common.{◌+◌, ◌*◌, ap, ◌∙◌, arith}
use Rattle.bl_rob.proofs.Masks.{byte_is, one_more}
use Rattle.bl_rob.proofs.visible.guards.Goals as goal

pub loop-left-preserved : goal.loop-left-preserved
loop-left-preserved c =
    one_more c.args.entries.now c.loop-left.left c.loop-left.mask (2 * c.loop-left.mask + c.from.result) c.index-entries-left.result c.is_guard.result
    c.loop-left.invariant (omega arith) c.index-entries-left.is c.is_guard.ensures (ap (λ k. 2 * c.loop-left.mask + k) (c.from.ensures ∙ byte_is c.is_guard.result))
