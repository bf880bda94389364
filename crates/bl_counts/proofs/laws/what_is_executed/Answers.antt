use Rattle.bl_counts.proofs.RecordedCounts.{ended, executes, is_executed, spent}
use Rattle.bl_counts.proofs.laws.what_is_executed.Goals as goal

pub returns-clause-each : goal.returns-clause-each
returns-clause-each c = λ program function start steps count at. (is_executed program function start steps count at, executes program function start steps count at)

pub returns-clause-spent : goal.returns-clause-spent
returns-clause-spent c = spent

pub returns-clause-ended : goal.returns-clause-ended
returns-clause-ended c = ended
