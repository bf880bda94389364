use Rattle.std.proofs.Common.{◌≡◌, arith, refl, subst}
use Rattle.bl_program.specs.Layout.{results_of}
use Rattle.bl_definite.specs.Search.{Answers}
use Rattle.bl_definite.specs.declared.facts.Fact.TheVariants.{Given}
use Rattle.bl_definite.proofs.Questions.{has_all, has_more, lacks_one}
use Rattle.bl_definite.proofs.needs.lacks_result.Goals as goal

pub loop-index-init : goal.loop-index-init
loop-index-init c = record { below = λ index lt. absurd (omega arith); clean = c.requires.clean }

pub loop-index-preserved : goal.loop-index-preserved
loop-index-preserved c = record {
  below = has_more c.args.place.now.parts.now c.args.position Given c.loop-index.index c.loop-index.invariant.below (c.in_ok-lacks.ensures.has c.if-branch.false (Given c.loop-index.index) refl);
  clean = c.in_ok-lacks.ensures.clean c.if-branch.false;
}

pub lacks-requires-clause-clean : goal.lacks-requires-clause-clean
lacks-requires-clause-clean c = c.loop-index.invariant.clean

pub returns-then-branch : goal.returns-then-branch
returns-then-branch c =
    lacks_one c.args.place.now.parts.now c.args.position Given (results_of c.args.place.now.parts.now c.args.place.now.function) c.loop-index.index c.lacks.new.search (omega (arith, c.loop-index-test.true, c.results_of-index-end.ensures))
    (subst (λ b. Answers c.args.place.now.parts.now (λ other. other ≡ Given c.loop-index.index) c.args.position b c.lacks.new.search) c.if-branch.true c.in_ok-lacks.ensures)

pub returns : goal.returns
returns c =
    has_all c.args.place.now.parts.now c.args.position Given (results_of c.args.place.now.parts.now c.args.place.now.function) c.loop-index.index c.loop-index.search (omega (arith, c.loop-index-test.false, c.results_of-index-end.ensures)) c.loop-index.invariant.below c.loop-index.invariant.clean
