use Rattle.bl_reduce.specs.Runnable.{runnable}
use Rattle.bl_reduce.proofs.Soundness.{preservation}
use Rattle.bl_reduce.proofs.laws.preservation_and_progress.Goals as goal

pub returns : goal.returns
returns c = λ tree results config linked is. preservation tree (runnable tree linked) results config is
