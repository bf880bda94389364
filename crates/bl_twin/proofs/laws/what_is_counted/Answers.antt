use Rattle.bl_twin.proofs.Comparisons.{counted}
use Rattle.bl_twin.proofs.laws.what_is_counted.Goals as goal

pub returns : goal.returns
returns c = counted
