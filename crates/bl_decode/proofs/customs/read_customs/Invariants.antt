use Rattle.std.proofs.Common.{◌-◌, length}
use Rattle.bl_decode.specs.Chains.{CustomsPassed}
use Rattle.bl_decode.proofs.customs.read_customs.Given as goal

abbrev pub invariant-loop-alloc : goal.invariant-loop-alloc
invariant-loop-alloc l = CustomsPassed l.bytes l.at l.place l.fn.customs l.customs

abbrev pub decreases-loop-alloc : goal.decreases-loop-alloc
decreases-loop-alloc l = length l.bytes - l.place
