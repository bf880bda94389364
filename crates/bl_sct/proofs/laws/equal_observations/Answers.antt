use Rattle.bl_sct.proofs.EqualObservations.{equal}
use Rattle.bl_sct.proofs.laws.equal_observations.Goals as goal

pub returns : goal.returns
returns c = equal
