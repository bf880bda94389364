use Rattle.bl_sct.proofs.EqualObservations.{in_step}
use Rattle.bl_sct.proofs.laws.lockstep.Goals as goal

pub returns : goal.returns
returns c = in_step
