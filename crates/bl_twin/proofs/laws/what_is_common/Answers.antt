use Rattle.bl_twin.specs.TwinComparisons.{is_same}
use Rattle.bl_twin.specs.SameObservations.{observations_decided}
use Rattle.bl_twin.proofs.CommonPrefixes.{is_longest}
use Rattle.bl_twin.proofs.laws.what_is_common.Goals as goal

pub returns : goal.returns
returns c = is_longest is_same observations_decided
