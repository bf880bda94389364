use Rattle.bl_graph.proofs.UseRows.{row_var, row_const}
use Rattle.bl_graph.proofs.reads.push_operand.Goals as goal

pub returns-in_ok-push-in-Var : goal.returns-in_ok-push-in-Var
returns-in_ok-push-in-Var c = row_var c.args.operand c.in-Var.var c.args.at c.args.uses.now c.push.new.self c.in-Var.is c.in_ok-push-in-Var.ensures.ok

pub returns-in-Const : goal.returns-in-Const
returns-in-Const c = row_const c.args.operand c.in-Const.field-0 c.args.at c.args.uses.now c.in-Const.is
