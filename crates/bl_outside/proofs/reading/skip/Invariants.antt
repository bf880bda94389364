use Rattle.std.proofs.Common.{◌-◌, ◌≤◌}
use Rattle.bl_outside.specs.Reading.{Passes}
use Rattle.bl_outside.proofs.reading.skip.Given as goal

-- what isn't left to be passed was passed
abbrev pub invariant-loop-left : goal.invariant-loop-left
invariant-loop-left g l = (l.left ≤ l.count) × Passes (g.F.Read.remaining l.initial.file) (g.F.Read.remaining l.file) (l.count - l.left)

-- how many bytes are still to be passed
abbrev pub decreases-loop-left : goal.decreases-loop-left
decreases-loop-left g l = l.left
