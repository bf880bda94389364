use Rattle.bl_image.proofs.Prefixes.{one_program}
use Rattle.bl_image.proofs.laws.one_program.Goals as goal

pub returns : goal.returns
returns c = one_program
