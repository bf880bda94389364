use Rattle.bl_gen.proofs.SupportedTree.{accepted, decoded}
use Rattle.bl_gen.proofs.laws.made_modules_are_accepted.Goals as goal

pub returns : goal.returns
returns c = record { spelled = accepted; decoded = decoded }
