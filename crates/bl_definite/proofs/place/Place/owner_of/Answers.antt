use Rattle.bl_definite.proofs.Places.{owner_is}
use Rattle.bl_definite.proofs.place.Place.owner_of.Goals as goal

pub returns : goal.returns
returns c = owner_is _ _ c.as_slice.result.now _ _ c.requires.tables c.as_slice.ensures c.owner_among.ensures
