use Rattle.bl_gen.proofs.Numbers.{leb_shortest}
use Rattle.bl_gen.proofs.laws.numbers_are_shortest.Goals as goal

pub returns : goal.returns
returns c = leb_shortest
