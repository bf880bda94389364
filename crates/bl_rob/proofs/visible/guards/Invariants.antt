use Rattle.bl_rob.proofs.Masks.{IsMask}
use Rattle.bl_rob.proofs.visible.guards.Given as goal

abbrev pub invariant-loop-left : goal.invariant-loop-left
invariant-loop-left l = IsMask l.entries l.left l.mask

abbrev pub decreases-loop-left : goal.decreases-loop-left
decreases-loop-left l = l.left
