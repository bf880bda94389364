use Rattle.std.proofs.Common.{arith}
use Rattle.std.proofs.lemmas.Option.{slice_get_past}
use Rattle.bl_definite.proofs.Arrivals.{came_apart, came_lost, came_made, came_nowhere, came_seen, refuted}
use Rattle.bl_definite.proofs.search.comes.Goals as goal

pub returns-then-from-count : goal.returns-then-from-count
returns-then-from-count c =
    came_nowhere c.args.place.now.parts.now c.args.place.now.function c.args.fact c.args.position c.args.from c.args.search.now
    (slice_get_past c.args.place.now.parts.now.commands c.args.from (omega (arith, c.if-from-count.true, c.count.ensures)))

pub returns-then-not-follows : goal.returns-then-not-follows
returns-then-not-follows c =
    came_apart c.args.place.now.parts.now c.args.place.now.function c.args.fact c.args.position c.args.from _ c.command_at-command.ensures c.args.search.now
    (refuted _ _ c.if-not-follows.true c.follows.ensures)

pub returns-then-makes : goal.returns-then-makes
returns-then-makes c =
    came_made c.args.place.now.parts.now c.args.place.now.function c.args.fact c.args.position c.args.from _ c.command_at-command.ensures c.args.search.now
    (c.makes.ensures.0 c.if-makes.true)

pub returns-then-loses : goal.returns-then-loses
returns-then-loses c =
    came_lost c.args.place.now.parts.now c.args.place.now.function c.args.fact c.args.position c.args.from _ c.command_at-command.ensures c.args.search.now
    (c.follows.ensures.0 c.if-not-follows.false) (c.loses.ensures.0 c.if-loses.true)

pub returns : goal.returns
returns c =
    came_seen c.args.place.now.parts.now c.args.place.now.function c.args.fact c.args.position c.args.from _ c.command_at-command.ensures c.args.search.now c.see.new.search
    c.requires.place.tables.facts c.requires.place.rules c.requires.holds c.requires.room (c.follows.ensures.0 c.if-not-follows.false)
    (refuted _ _ c.if-makes.false c.makes.ensures) (refuted _ _ c.if-loses.false c.loses.ensures) c.in_ok-see.ensures
