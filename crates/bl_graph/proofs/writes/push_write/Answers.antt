use Rattle.bl_graph.proofs.GraphPasses.{row_some}
use Rattle.bl_graph.proofs.writes.push_write.Goals as goal

pub returns-in_ok-push : goal.returns-in_ok-push
returns-in_ok-push c = row_some c.args.var c.in-Some.var c.args.at c.args.writes.now c.push.new.self c.in-Some.is c.in_ok-push.ensures.ok
