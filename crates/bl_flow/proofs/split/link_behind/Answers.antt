use Rattle.std.proofs.Common.{arith, sym}
use Rattle.bl_flow.proofs.NodeLinks.{through_at, behind_at}
use Rattle.bl_flow.proofs.split.link_behind.Goals as goal

pub returns-then-place-first : goal.returns-then-place-first
returns-then-place-first c = sym (through_at c.args.nodes c.args.outer.now c.args.place (let lt = c.if-place-first.true in omega arith))

pub returns-else-place-first : goal.returns-else-place-first
returns-else-place-first c = sym (behind_at c.args.nodes c.args.outer.now c.args.place (let above = c.if-place-first.false in omega arith))
