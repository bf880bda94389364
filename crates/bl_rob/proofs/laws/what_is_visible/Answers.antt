use Rattle.bl_rob.proofs.VisibleValues.{sees_last}
use Rattle.bl_rob.proofs.laws.what_is_visible.Goals as goal

pub returns : goal.returns
returns c = sees_last
