use Rattle.bl_gen.proofs.ByteRanges.{of_bytes}
use Rattle.bl_gen.proofs.laws.made_modules_are_of_bytes.Goals as goal

pub returns : goal.returns
returns c = of_bytes
