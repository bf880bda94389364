use Rattle.bl_cmd.proofs.TableLemmas.{owner_result, no_result}
use Rattle.bl_cmd.proofs.place.Place.is_any_result.Goals as goal

pub returns-in-Some : goal.returns-in-Some
returns-in-Some c = owner_result _ _ _ _ c.requires.tables.rule c.in-Some.ensures.1 c.is_result_of.ensures

pub returns-in-None : goal.returns-in-None
returns-in-None c = no_result _ _ c.requires.tables.rule c.in-None.ensures
