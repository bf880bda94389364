use Rattle.bl_iface.proofs.OneVerdict.{one_verdict}
use Rattle.bl_iface.proofs.laws.one_verdict.Goals as goal

pub returns : goal.returns
returns c = one_verdict
