use Rattle.std.proofs.Common.{◌+◌, arith}
use Rattle.bl_program.specs.Sites.{Among}
use Rattle.bl_graph.proofs.UseRows.{row_next}
use Rattle.bl_graph.proofs.reads.push_row.Goals as goal

pub loop-var-preserved : goal.loop-var-preserved
loop-var-preserved c =
    row_next (Among c.args.operands.now) c.args.at c.loop-var.bound c.in-Some.var.0 c.args.uses.now c.loop-var.uses c.push.new.self c.loop-var.invariant c.in-Some.ensures c.in_ok-push.ensures.ok
    (c.from-bound.result + 1) (omega (arith, c.from-bound.ensures))
