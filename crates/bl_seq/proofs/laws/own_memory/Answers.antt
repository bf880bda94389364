use Rattle.bl_seq.proofs.OwnAccesses.{inside}
use Rattle.bl_seq.proofs.OwnSizes.{whole}
use Rattle.bl_seq.proofs.laws.own_memory.Goals as goal

pub returns : goal.returns
returns c = λ program s r k e. inside program r.facts r.rules s (whole program r.facts r.rules s r) k e
