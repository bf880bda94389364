use Rattle.std.proofs.Common.{arith, subst, sym}
use Rattle.bl_program.specs.Layout.{Holds}
use Rattle.bl_program.proofs.Layouts.{holds_within}
use Rattle.bl_definite.specs.Facts.{Needs}
use Rattle.bl_definite.specs.Search.{Answers, IsStraight}
use Rattle.bl_definite.proofs.Questions.{AreDefiniteBelow, definite_more, definite_none, early_noted, finds_none, finds_one, none_early, straight_more, straight_none}
use Rattle.bl_definite.proofs.checker.lacking_from.Goals as goal

pub loop-position-init : goal.loop-position-init
loop-position-init c = record {
  below = subst (AreDefiniteBelow c.args.place.now.parts.now c.args.place.now.function) (sym c.entry-position.ensures) (definite_none c.args.place.now.parts.now c.args.place.now.function);
  clean = c.requires.clean;
  early = none_early c.args.place.now.parts.now c.requires.place.tables.facts c.requires.place.rules c.args.place.now.function _ _ c.requires.none;
  straight = λ _. subst (IsStraight c.args.place.now.parts.now c.args.place.now.function) (sym c.entry-position.ensures) (straight_none c.args.place.now.parts.now c.requires.place.tables.facts c.requires.place.rules c.args.place.now.function);
}

pub needs_lacking-requires-clause-holds : goal.needs_lacking-requires-clause-holds
needs_lacking-requires-clause-holds c =
    record {
      exists = c.requires.place.exists;
      from = omega (arith, c.loop-position.auto.position, c.entry-position.ensures);
      below = omega (arith, c.loop-position-test.true, c.end-position-end.ensures);
    }

pub command_at-command-requires : goal.command_at-command-requires
command_at-command-requires c =
    let holds : Holds c.args.place.now.parts.now c.args.place.now.function c.loop-position.position = record {
      exists = c.requires.place.exists;
      from = omega (arith, c.loop-position.auto.position, c.entry-position.ensures);
      below = omega (arith, c.loop-position-test.true, c.end-position-end.ensures);
    } in
    holds_within c.args.place.now.parts.now c.args.place.now.function c.loop-position.position c.requires.place.tables.facts holds

pub loop-position-preserved : goal.loop-position-preserved
loop-position-preserved c =
    let holds : Holds c.args.place.now.parts.now c.args.place.now.function c.loop-position.position = record {
      exists = c.requires.place.exists;
      from = omega (arith, c.loop-position.auto.position, c.entry-position.ensures);
      below = omega (arith, c.loop-position-test.true, c.end-position-end.ensures);
    } in
    record {
      below = definite_more c.args.place.now.parts.now c.args.place.now.function c.loop-position.position _ c.needs_lacking.new.search c.command_at-command.ensures c.loop-position.invariant.below
          (subst (λ b. Answers c.args.place.now.parts.now (Needs c.args.place.now.parts.now c.args.place.now.function c.command_at-command.result) c.loop-position.position b c.needs_lacking.new.search) c.if-branch.false c.in_ok-needs_lacking.ensures);
      clean = c.in_ok-needs_lacking.ensures.clean c.if-branch.false;
      early = early_noted c.args.place.now.parts.now c.requires.place.tables.facts c.requires.place.rules c.args.place.now.function c.loop-position.straight c.loop-position.position _ c.loop-position.early _ holds c.command_at-command.ensures
          c.loop-position.invariant.straight c.note_straight-straight.ensures.flags c.loop-position.invariant.early;
      straight = λ e. straight_more c.args.place.now.parts.now c.requires.place.tables.facts c.requires.place.rules c.args.place.now.function c.loop-position.position _ c.command_at-command.ensures
          (c.loop-position.invariant.straight (c.note_straight-straight.ensures.before e)) (c.note_straight-straight.ensures.here e);
    }

pub returns-then-branch : goal.returns-then-branch
returns-then-branch c =
    let holds : Holds c.args.place.now.parts.now c.args.place.now.function c.loop-position.position = record {
      exists = c.requires.place.exists;
      from = omega (arith, c.loop-position.auto.position, c.entry-position.ensures);
      below = omega (arith, c.loop-position-test.true, c.end-position-end.ensures);
    } in
    finds_one c.args.place.now.parts.now c.args.place.now.function c.loop-position.position _ c.needs_lacking.new.search holds c.command_at-command.ensures c.loop-position.invariant.below
    (subst (λ b. Answers c.args.place.now.parts.now (Needs c.args.place.now.parts.now c.args.place.now.function c.command_at-command.result) c.loop-position.position b c.needs_lacking.new.search) c.if-branch.true c.in_ok-needs_lacking.ensures)

pub returns : goal.returns
returns c = finds_none c.args.place.now.parts.now c.args.place.now.function c.loop-position.position c.loop-position.search (omega (arith, c.loop-position-test.false, c.end-position-end.ensures)) c.loop-position.invariant.below c.loop-position.invariant.clean
