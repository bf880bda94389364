use Rattle.bl_definite.proofs.Questions.{asked_static}
use Rattle.bl_definite.proofs.needs.lacks_variable.Goals as goal

pub returns-in-None : goal.returns-in-None
returns-in-None c = asked_static c.args.place.now.parts.now c.args.position c.args.place.now.function c.args.x c.args.search.now c.requires.place.tables.rule c.requires.clean c.in-None.ensures
