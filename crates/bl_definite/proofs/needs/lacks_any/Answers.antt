use Rattle.std.proofs.Common.{◌∷◌, [], subst}
use Rattle.bl_definite.specs.Facts.{Reads}
use Rattle.bl_definite.specs.Search.{Answers}
use Rattle.bl_definite.proofs.Arrivals.{ok_alike}
use Rattle.bl_definite.proofs.Questions.{asked_both, asked_first}
use Rattle.bl_definite.proofs.needs.lacks_any.Goals as goal

pub returns-then-branch : goal.returns-then-branch
returns-then-branch c = asked_first c.args.place.now.parts.now c.args.position c.args.place.now.function (c.args.a ∷ []) (c.args.b ∷ c.args.c ∷ []) c.lacks_operand.new.search
    (subst (λ b. Answers c.args.place.now.parts.now (Reads c.args.place.now.parts.now c.args.place.now.function (c.args.a ∷ [])) c.args.position b c.lacks_operand.new.search) c.if-branch.true c.in_ok-lacks_operand.ensures)

pub lacks_either-requires-clause-clean : goal.lacks_either-requires-clause-clean
lacks_either-requires-clause-clean c = c.in_ok-lacks_operand.ensures.clean c.if-branch.false

pub returns : goal.returns
returns c = ok_alike c.lacks_either.result
    (λ answer. Answers c.args.place.now.parts.now (Reads c.args.place.now.parts.now c.args.place.now.function (c.args.b ∷ c.args.c ∷ [])) c.args.position answer c.lacks_either.new.search)
    (λ answer. Answers c.args.place.now.parts.now (Reads c.args.place.now.parts.now c.args.place.now.function (c.args.a ∷ c.args.b ∷ c.args.c ∷ [])) c.args.position answer c.lacks_either.new.search)
    (λ answer. asked_both c.args.place.now.parts.now c.args.position c.args.place.now.function (c.args.a ∷ []) (c.args.b ∷ c.args.c ∷ []) answer c.lacks_operand.new.search c.lacks_either.new.search
    (subst (λ b. Answers c.args.place.now.parts.now (Reads c.args.place.now.parts.now c.args.place.now.function (c.args.a ∷ [])) c.args.position b c.lacks_operand.new.search) c.if-branch.false c.in_ok-lacks_operand.ensures))
    c.lacks_either.ensures
