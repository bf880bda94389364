use Rattle.bl_seq.proofs.OwnSizes.{whole}
use Rattle.bl_seq.proofs.OwnSteps.{has_step}
use Rattle.bl_seq.proofs.laws.progress.Goals as goal

pub returns : goal.returns
returns c = λ program s r. has_step program r.facts r.rules s (whole program r.facts r.rules s r)
