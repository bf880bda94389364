use Rattle.bl_rob.proofs.VisibleValues.{Unwritten}
use Rattle.bl_rob.proofs.visible.visible.Given as goal

abbrev pub invariant-loop-left : goal.invariant-loop-left
invariant-loop-left l = Unwritten l.entries l.x l.left

abbrev pub decreases-loop-left : goal.decreases-loop-left
decreases-loop-left l = l.left
