use Rattle.bl_iface.proofs.OneFile.{one_file}
use Rattle.bl_iface.proofs.laws.one_file.Goals as goal

pub returns : goal.returns
returns c = one_file
