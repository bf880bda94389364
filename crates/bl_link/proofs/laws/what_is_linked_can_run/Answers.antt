use Rattle.bl_link.proofs.LinkedTrees.{linked}
use Rattle.bl_link.proofs.laws.what_is_linked_can_run.Goals as goal

pub returns : goal.returns
returns c = λ parts tree are sound h. linked parts tree are sound h
