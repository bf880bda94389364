use Rattle.std.proofs.Common.{Some, sym, ap, ◌∙◌, arith}
use Rattle.bl_program.specs.Sites.{written_by}
use Rattle.bl_graph.proofs.FirstVariableLemmas.{arg_within, arg_small, arg_is, out_small, out_is}
use Rattle.bl_graph.proofs.writes.written.Goals as goal

pub bounds-running-function : goal.bounds-running-function
bounds-running-function c = arg_within c.args.running.now c.requires.running c.args.at c.args.command c.requires.holds c.requires.stands _ _ _ _ c.in-Arg.is

pub overflow_add-result : goal.overflow_add-result
overflow_add-result c = let lt = arg_small c.args.running.now c.requires.running c.args.at c.args.command c.requires.holds c.requires.stands _ _ _ _ c.in-Arg.is in omega arith

pub overflow_add-result-in-Out : goal.overflow_add-result-in-Out
overflow_add-result-in-Out c = let lt = out_small c.args.running.now c.requires.running c.args.at c.args.command c.requires.holds c.requires.stands _ _ _ c.in-Out.is in omega arith

pub returns-in-Arg : goal.returns-in-Arg
returns-in-Arg c =
    ap Some (arg_is c.args.running.now c.requires.running c.args.at c.args.command c.requires.holds c.requires.stands _ _ _ _ c.in-Arg.is)
    ∙ ap (written_by c.args.running.now.parts.now c.args.at) (sym c.in-Arg.is)

pub returns-in-Out : goal.returns-in-Out
returns-in-Out c =
    ap Some (out_is c.args.running.now c.requires.running c.args.at c.args.command c.requires.holds c.requires.stands _ _ _ c.in-Out.is)
    ∙ ap (written_by c.args.running.now.parts.now c.args.at) (sym c.in-Out.is)
