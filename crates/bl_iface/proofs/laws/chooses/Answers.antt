use Rattle.bl_iface.proofs.LeastChoice.{as_least, least_as}
use Rattle.bl_iface.proofs.laws.chooses.Goals as goal

pub returns : goal.returns
returns c = λ role iface program set. (as_least role iface program set, least_as role iface program set)
