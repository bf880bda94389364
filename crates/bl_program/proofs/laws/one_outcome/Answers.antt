use Rattle.bl_base.proofs.RunLemmas.{run_unique}
use Rattle.bl_program.specs.Outcomes.{opening}
use Rattle.bl_program.specs.Steps.{plain_step}
use Rattle.bl_program.proofs.laws.one_outcome.Goals as goal

pub returns : goal.returns
returns c = λ program function start m n one other a b. run_unique (plain_step program) m n (opening program function start) one other a.run b.run
