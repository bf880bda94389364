use Rattle.bl_twin.proofs.Comparisons.{told}
use Rattle.bl_twin.proofs.laws.equal_exactly_where_not_different.Goals as goal

pub returns : goal.returns
returns c = told
