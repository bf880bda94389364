use Rattle.bl_graph.proofs.ProtectPaths.{reason}
use Rattle.bl_graph.proofs.laws.each_protect_has_a_path.Goals as goal

pub returns : goal.returns
returns c = λ program set certificate is sites certifies s h. reason program is set sites certificate certifies s h
