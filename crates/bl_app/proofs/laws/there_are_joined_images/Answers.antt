use Rattle.bl_app.proofs.WorkedCalls.{are_met}
use Rattle.bl_app.proofs.laws.there_are_joined_images.Goals as goal

pub returns : goal.returns
returns c = are_met
