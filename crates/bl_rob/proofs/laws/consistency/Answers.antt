use Rattle.bl_rob.proofs.BufferInvariant.{consistent}
use Rattle.bl_rob.proofs.laws.consistency.Goals as goal

pub returns : goal.returns
returns c = consistent
