use Rattle.bl_graph.proofs.RangeLemmas.{in_range}
use Rattle.bl_report.proofs.ProtectReasons.{has_reason}
use Rattle.bl_report.proofs.laws.each_protect_has_a_reason.Goals as goal

pub returns : goal.returns
returns c = λ program certificate facts rules certified s h. has_reason program certificate (in_range program facts rules) certified s h
