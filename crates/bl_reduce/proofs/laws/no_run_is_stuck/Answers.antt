use Rattle.bl_reduce.specs.Runnable.{runnable}
use Rattle.bl_reduce.proofs.Soundness.{never_stuck}
use Rattle.bl_reduce.proofs.laws.no_run_is_stuck.Goals as goal

pub returns : goal.returns
returns c = λ tree function start n config linked is comes. never_stuck tree (runnable tree linked) function start is n config comes
