use Rattle.std.proofs.Common.{arith}
use Rattle.bl_definite.proofs.Questions.{before_more, definite_all, first_is}
use Rattle.bl_definite.proofs.checker.lacking_among.Goals as goal

pub loop-function-init : goal.loop-function-init
loop-function-init c = record { before = λ other position lt holds. absurd (omega arith); clean = c.requires.clean }

pub loop-function-preserved : goal.loop-function-preserved
loop-function-preserved c = record {
  before = before_more c.args.parts.now c.loop-function.function c.loop-function.invariant.before (c.in_ok-position.ensures.none c.in_default.is);
  clean = c.in_ok-position.ensures.clean c.in_default.is;
}

pub returns-in-Some : goal.returns-in-Some
returns-in-Some c = first_is c.args.parts.now c.loop-function.function c.in-Some.position c.loop-function.invariant.before (c.in_ok-position.ensures.one c.in-Some.position c.in-Some.is)

pub returns : goal.returns
returns c = definite_all c.args.parts.now c.loop-function.function (omega (arith, c.loop-function-test.false)) c.loop-function.invariant.before
