use Rattle.std.proofs.Common.{refl}
use Rattle.bl_flow.proofs.optional.OptionalNumber.none.Goals as goal

pub returns : goal.returns
returns c = refl
