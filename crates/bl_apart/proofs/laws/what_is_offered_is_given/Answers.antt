use Rattle.bl_apart.proofs.BesideOffers.{all_given}
use Rattle.bl_apart.proofs.laws.what_is_offered_is_given.Goals as goal

pub returns : goal.returns
returns c = λ s stubs libraries users here there sound sounds parts others e f offered. all_given s stubs libraries users here there sound sounds parts others e f offered
