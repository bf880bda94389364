use Rattle.bl_format.proofs.ImageExistence.{some_bytes}
use Rattle.bl_format.proofs.laws.programs_have_images.Goals as goal

pub returns : goal.returns
returns c = some_bytes
