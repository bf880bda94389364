use Rattle.bl_base.proofs.RunLemmas.{run_unique}
use Rattle.bl_reduce.specs.Outcomes.{opening}
use Rattle.bl_reduce.specs.Steps.{source_step}
use Rattle.bl_reduce.proofs.laws.one_outcome.Goals as goal

pub returns : goal.returns
returns c = λ tree function start m n o p h i. run_unique (source_step tree) m n (opening tree function start) o p h.run i.run
