use Rattle.std.proofs.Common.{◌^◌, ℕ, length, arith}
use Rattle.std.specs.Prelude.{unwrap_or}
use Rattle.bl_program.specs.Sites.{site_weight}
use Rattle.bl_program.proofs.Totals.{total_false, total_true}
use Rattle.bl_program.proofs.weights.is_total_small.Goals as goal

pub returns-then-total-ge-LIMIT : goal.returns-then-total-ge-LIMIT
returns-then-total-ge-LIMIT c =
    total_false (λ (s : ℕ). unwrap_or (site_weight c.args.parts.now s) 0) (2 ^ 63) c.loop-at.at (length c.args.parts.now.commands) c.loop-at.total c.weight_at-total.result
    c.loop-at.invariant.is c.weight_at-total.ensures (omega arith) c.if-total-ge-LIMIT.true

pub returns : goal.returns
returns c =
    total_true (λ (s : ℕ). unwrap_or (site_weight c.args.parts.now s) 0) (2 ^ 63) c.loop-at.at (length c.args.parts.now.commands) c.loop-at.total
    c.loop-at.invariant.is c.loop-at.invariant.small (omega arith)
