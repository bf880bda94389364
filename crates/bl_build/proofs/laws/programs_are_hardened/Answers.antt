use Rattle.bl_build.proofs.HardenExists.{some_hardened}
use Rattle.bl_build.proofs.laws.programs_are_hardened.Goals as goal

pub returns : goal.returns
returns c = some_hardened
