use Rattle.bl_seq.proofs.OwnSizes.{whole, sized}
use Rattle.bl_seq.proofs.laws.sizes.Goals as goal

pub returns : goal.returns
returns c = λ program s r. sized program r.facts r.rules s (whole program r.facts r.rules s r)
