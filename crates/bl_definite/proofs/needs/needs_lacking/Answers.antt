use Rattle.std.proofs.Common.{[], IfOk, false, subst, sym}
use Rattle.bl_definite.specs.Facts.{Needs, Reads}
use Rattle.bl_definite.specs.Search.{Answers}
use Rattle.bl_definite.proofs.Questions.{needs_none, reads_nothing}
use Rattle.bl_definite.proofs.needs.needs_lacking.Goals as goal

pub returns-in-Set : goal.returns-in-Set
returns-in-Set c = subst (λ here. IfOk c.lacks_any.result (λ answer. Answers c.args.place.now.parts.now (Needs c.args.place.now.parts.now c.args.place.now.function here) c.args.position answer c.lacks_any.new.search)) (sym c.in-Set.is) c.lacks_any.ensures

pub returns-in-Load : goal.returns-in-Load
returns-in-Load c = subst (λ here. IfOk c.lacks_operand.result (λ answer. Answers c.args.place.now.parts.now (Needs c.args.place.now.parts.now c.args.place.now.function here) c.args.position answer c.lacks_operand.new.search)) (sym c.in-Load.is) c.lacks_operand.ensures

pub returns-in-Store : goal.returns-in-Store
returns-in-Store c = subst (λ here. IfOk c.lacks_either.result (λ answer. Answers c.args.place.now.parts.now (Needs c.args.place.now.parts.now c.args.place.now.function here) c.args.position answer c.lacks_either.new.search)) (sym c.in-Store.is) c.lacks_either.ensures

pub returns-in-Test : goal.returns-in-Test
returns-in-Test c = subst (λ here. IfOk c.lacks_operand-in-Test.result (λ answer. Answers c.args.place.now.parts.now (Needs c.args.place.now.parts.now c.args.place.now.function here) c.args.position answer c.lacks_operand-in-Test.new.search)) (sym c.in-Test.is) c.lacks_operand-in-Test.ensures

pub returns-in-Arg : goal.returns-in-Arg
returns-in-Arg c = subst (λ here. IfOk c.lacks_operand-in-Arg.result (λ answer. Answers c.args.place.now.parts.now (Needs c.args.place.now.parts.now c.args.place.now.function here) c.args.position answer c.lacks_operand-in-Arg.new.search)) (sym c.in-Arg.is) c.lacks_operand-in-Arg.ensures

pub returns-in-Out : goal.returns-in-Out
returns-in-Out c = subst (λ here. IfOk c.lacks_operand-in-Out.result (λ answer. Answers c.args.place.now.parts.now (Needs c.args.place.now.parts.now c.args.place.now.function here) c.args.position answer c.lacks_operand-in-Out.new.search)) (sym c.in-Out.is) c.lacks_operand-in-Out.ensures

pub returns-in-Call : goal.returns-in-Call
returns-in-Call c = subst (λ here. IfOk c.lacks_argument.result (λ answer. Answers c.args.place.now.parts.now (Needs c.args.place.now.parts.now c.args.place.now.function here) c.args.position answer c.lacks_argument.new.search)) (sym c.in-Call.is) c.lacks_argument.ensures

pub returns-in-Ret : goal.returns-in-Ret
returns-in-Ret c = subst (λ here. IfOk c.lacks_result.result (λ answer. Answers c.args.place.now.parts.now (Needs c.args.place.now.parts.now c.args.place.now.function here) c.args.position answer c.lacks_result.new.search)) (sym c.in-Ret.is) c.lacks_result.ensures

pub returns-in-Jump : goal.returns-in-Jump
returns-in-Jump c = subst (λ here. Answers c.args.place.now.parts.now (Needs c.args.place.now.parts.now c.args.place.now.function here) c.args.position false c.args.search.now) (sym c.in-Jump.is)
    (needs_none c.args.place.now.parts.now c.args.position (Reads c.args.place.now.parts.now c.args.place.now.function []) c.args.search.now c.requires.clean (λ fact reads. absurd (reads_nothing c.args.place.now.parts.now c.args.place.now.function fact reads)))

pub returns-in-Trap : goal.returns-in-Trap
returns-in-Trap c = subst (λ here. Answers c.args.place.now.parts.now (Needs c.args.place.now.parts.now c.args.place.now.function here) c.args.position false c.args.search.now) (sym c.in-Trap.is)
    (needs_none c.args.place.now.parts.now c.args.position (Reads c.args.place.now.parts.now c.args.place.now.function []) c.args.search.now c.requires.clean (λ fact reads. absurd (reads_nothing c.args.place.now.parts.now c.args.place.now.function fact reads)))
