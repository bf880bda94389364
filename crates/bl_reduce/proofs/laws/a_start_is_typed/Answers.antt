use Rattle.bl_reduce.specs.Runnable.{runnable}
use Rattle.bl_reduce.proofs.Soundness.{typed_opening}
use Rattle.bl_reduce.proofs.laws.a_start_is_typed.Goals as goal

pub returns : goal.returns
returns c = λ tree function start linked is. typed_opening tree (runnable tree linked) function start is
