use Rattle.std.proofs.Common.{◌-◌, subst, ◌∙◌}
use Rattle.bl_definite.specs.Search.{Came, Entered, Traced}
use Rattle.bl_definite.proofs.Arrivals.{ok_alike, traced_begun, traced_is, traced_lacks}
use Rattle.bl_definite.proofs.search.trace.Goals as goal

pub returns-then-is_begun : goal.returns-then-is_begun
returns-then-is_begun c =
    traced_begun c.args.place.now.parts.now c.args.place.now.function c.args.fact c.args.position c.args.search.now c.requires.place.exists
    (c.is_begun.ensures.yes c.if-is_begun.true) (c.is_begun.ensures.unknown c.if-is_begun.true)

pub returns-then-branch : goal.returns-then-branch
returns-then-branch c = traced_lacks c.args.place.now.parts.now c.args.place.now.function c.args.fact c.args.position _ _ (c.in_ok-comes.ensures.lacks c.if-branch.true)

pub enter-requires-clause-room : goal.enter-requires-clause-room
enter-requires-clause-room c = (c.in_ok-comes.ensures.extends c.if-branch.false).room ∙ c.requires.room

pub returns : goal.returns
returns c =
    ok_alike c.enter.result
    (λ answer. Entered c.args.place.now.parts.now c.args.place.now.function c.args.fact c.args.position answer c.comes.new.search c.enter.new.search)
    (λ answer. Traced c.args.place.now.parts.now c.args.place.now.function c.args.fact c.args.position answer c.args.search.now c.enter.new.search)
    (λ answer entered. traced_is c.args.place.now.parts.now c.args.place.now.function c.args.fact c.args.position answer c.args.search.now c.comes.new.search c.enter.new.search
    c.requires.place.tables.facts c.requires.place.rules c.requires.holds (c.is_begun.ensures.no c.if-is_begun.false)
    (subst (λ b. Came c.args.place.now.parts.now c.args.place.now.function c.args.fact (c.args.position - 1) c.args.position b c.args.search.now c.comes.new.search) c.if-branch.false c.in_ok-comes.ensures)
    entered)
    c.enter.ensures
