use Rattle.bl_cut.proofs.MarkedRuns.{run_same, run_back}
use Rattle.bl_cut.proofs.laws.marks_are_silent.Goals as goal

pub returns : goal.returns
returns c = λ program set function start steps outcome. (run_same set program function start steps outcome, run_back set program function start steps outcome)
