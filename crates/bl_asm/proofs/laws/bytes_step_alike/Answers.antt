use Rattle.bl_asm.proofs.AssembledSteps.{same_step, step_goes}
use Rattle.bl_asm.proofs.laws.bytes_step_alike.Goals as goal

pub returns : goal.returns
returns c = record { goes = step_goes; same = same_step }
