use Rattle.std.proofs.Common.{◌∷◌, [], IfOk, false, subst, sym}
use Rattle.bl_definite.specs.Facts.{Reads}
use Rattle.bl_definite.specs.Search.{Answers}
use Rattle.bl_definite.proofs.Questions.{asked_number}
use Rattle.bl_definite.proofs.needs.lacks_operand.Goals as goal

pub returns-in-Var : goal.returns-in-Var
returns-in-Var c = subst (λ o. IfOk c.lacks_variable.result (λ answer. Answers c.args.place.now.parts.now (Reads c.args.place.now.parts.now c.args.place.now.function (o ∷ [])) c.args.position answer c.lacks_variable.new.search)) (sym c.in-Var.is) c.lacks_variable.ensures

pub returns-in-Const : goal.returns-in-Const
returns-in-Const c = subst (λ o. Answers c.args.place.now.parts.now (Reads c.args.place.now.parts.now c.args.place.now.function (o ∷ [])) c.args.position false c.args.search.now) (sym c.in-Const.is) (asked_number c.args.place.now.parts.now c.args.position c.args.place.now.function _ c.args.search.now c.requires.clean)
