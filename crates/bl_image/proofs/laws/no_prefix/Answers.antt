use Rattle.bl_image.proofs.Prefixes.{no_prefix}
use Rattle.bl_image.proofs.laws.no_prefix.Goals as goal

pub returns : goal.returns
returns c = no_prefix
