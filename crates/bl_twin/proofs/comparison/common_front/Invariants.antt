use Rattle.std.proofs.Common.{length, ◌-◌}
use Rattle.bl_twin.proofs.PrefixLengths.{IsFront}
use Rattle.bl_twin.proofs.comparison.common_front.Given as goal

abbrev pub invariant-loop-count : goal.invariant-loop-count
invariant-loop-count g l = IsFront g.O.Sight.alike l.one l.other l.count

abbrev pub decreases-loop-count : goal.decreases-loop-count
decreases-loop-count g l = length l.one - l.count
