use Rattle.std.proofs.Common.{◌≡◌, take}
use Rattle.bl_flow.proofs.residual.copied.Given as goal

abbrev pub invariant-loop-x : goal.invariant-loop-x
invariant-loop-x g l = l.list ≡ take l.x-index l.from
