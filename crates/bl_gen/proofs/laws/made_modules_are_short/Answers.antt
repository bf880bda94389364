use Rattle.bl_gen.proofs.Lengths.{made_short}
use Rattle.bl_gen.proofs.laws.made_modules_are_short.Goals as goal

pub returns : goal.returns
returns c = made_short
