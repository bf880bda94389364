use Rattle.bl_cmd.proofs.Commands.{growth_some, growth_none, growth_load}
use Rattle.bl_cmd.proofs.rules.keeps_growth.Goals as goal

pub returns-in-Some : goal.returns-in-Some
returns-in-Some c = growth_some c.args.place.now _ _ _ _ _ _ _ _ _ c.in-Set.is c.in-Some.ensures c.is_grown.ensures

pub returns-in-None : goal.returns-in-None
returns-in-None c = growth_none c.args.place.now _ _ _ _ _ _ _ c.in-Set.is c.in-None.ensures

pub returns-in-Load : goal.returns-in-Load
returns-in-Load c = growth_load c.args.place.now _ _ _ _ _ _ _ _ _ c.in-Load.is c.memory_of-in-Load.ensures c.is_none.ensures
