use Rattle.std.proofs.Common.{◌≡◌, ◌∷◌, []}
use Rattle.bl_program.specs.Rules.{variable}
use Rattle.bl_definite.specs.Facts.{Reads}
use Rattle.bl_definite.specs.Search.{Answers}
use Rattle.bl_definite.specs.declared.facts.Fact.TheVariants.{Own, Returned}
use Rattle.bl_definite.proofs.Arrivals.{ok_alike, refuted}
use Rattle.bl_definite.proofs.Questions.{asked_known, asked_other, asked_own, asked_result, flagged_known}
use Rattle.bl_definite.proofs.Ways.{parameter_known}
use Rattle.bl_definite.proofs.needs.lacks_owned.Goals as goal

pub returns-then-is_result_of : goal.returns-then-is_result_of
returns-then-is_result_of c = ok_alike c.lacks.result
    (λ answer. Answers c.args.place.now.parts.now (λ other. other ≡ Returned c.args.owner) c.args.position answer c.lacks.new.search)
    (λ answer. Answers c.args.place.now.parts.now (Reads c.args.place.now.parts.now c.args.place.now.function (variable c.args.x ∷ [])) c.args.position answer c.lacks.new.search)
    (λ answer. asked_result c.args.place.now.parts.now c.args.position c.args.place.now.function c.args.x c.args.owner answer c.lacks.new.search c.requires.place.tables.rule c.requires.owned (c.is_result_of.ensures.0 c.if-is_result_of.true))
    c.lacks.ensures

pub returns-then-owner-place : goal.returns-then-owner-place
returns-then-owner-place c = asked_other c.args.place.now.parts.now c.args.position c.args.place.now.function c.args.x c.args.owner c.args.search.now c.requires.place.tables.rule c.requires.clean c.requires.owned
    (refuted _ _ c.if-is_result_of.false c.is_result_of.ensures) c.if-owner-place.true

pub returns-then-is_known : goal.returns-then-is_known
returns-then-is_known c = asked_known c.args.place.now.parts.now c.args.position c.args.place.now.function c.args.x c.args.owner c.args.search.now c.requires.place.tables.rule c.requires.clean c.requires.owned
    (refuted _ _ c.if-is_result_of.false c.is_result_of.ensures)
    (λ lacks. parameter_known c.args.place.now.parts.now c.requires.place.tables.facts c.requires.place.rules c.args.place.now.function c.args.x c.args.position (c.is_known.ensures.0 c.if-is_known.true) lacks c.requires.holds)

pub returns-then-is_early : goal.returns-then-is_early
returns-then-is_early c = asked_known c.args.place.now.parts.now c.args.position c.args.place.now.function c.args.x c.args.owner c.args.search.now c.requires.place.tables.rule c.requires.clean c.requires.owned
    (refuted _ _ c.if-is_result_of.false c.is_result_of.ensures)
    (flagged_known c.args.place.now.parts.now c.requires.place.tables.facts c.requires.place.rules c.args.place.now.function c.args.position c.args.x c.args.early.now c.requires.early c.requires.holds (c.is_early.ensures.0 c.if-is_early.true))

pub returns : goal.returns
returns c = ok_alike c.lacks-2.result
    (λ answer. Answers c.args.place.now.parts.now (λ other. other ≡ Own c.args.x) c.args.position answer c.lacks-2.new.search)
    (λ answer. Answers c.args.place.now.parts.now (Reads c.args.place.now.parts.now c.args.place.now.function (variable c.args.x ∷ [])) c.args.position answer c.lacks-2.new.search)
    (λ answer. asked_own c.args.place.now.parts.now c.args.position c.args.place.now.function c.args.x c.args.owner answer c.lacks-2.new.search c.requires.place.tables.rule c.requires.owned (refuted _ _ c.if-is_result_of.false c.is_result_of.ensures) c.if-owner-place.false)
    c.lacks-2.ensures
