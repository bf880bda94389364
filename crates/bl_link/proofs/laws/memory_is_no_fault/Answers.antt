use Rattle.bl_link.proofs.FaultLemmas.{memory_is_no_fault}
use Rattle.bl_link.proofs.laws.memory_is_no_fault.Goals as goal

pub returns : goal.returns
returns c = memory_is_no_fault
