use Rattle.bl_leb.proofs.SignedPlaces.{signed_same}
use Rattle.bl_leb.proofs.UnsignedPlaces.{unsigned_same}
use Rattle.bl_leb.proofs.laws.one_number.Goals as goal

pub returns-clause-unsigned : goal.returns-clause-unsigned
returns-clause-unsigned c = unsigned_same

pub returns-clause-signed : goal.returns-clause-signed
returns-clause-signed c = signed_same
