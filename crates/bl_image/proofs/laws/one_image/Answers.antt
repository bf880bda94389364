use Rattle.bl_image.proofs.Prefixes.{one_image}
use Rattle.bl_image.proofs.laws.one_image.Goals as goal

pub returns : goal.returns
returns c = one_image
