use Rattle.std.proofs.Common.{◌≡◌}
use Rattle.bl_program.specs.Layout.{sum_before}
use Rattle.bl_iface.proofs.limits.reserve_of.Given as goal

abbrev pub invariant-loop-memory : goal.invariant-loop-memory
invariant-loop-memory l = l.total ≡ sum_before (λ memory. memory.reserve) l.memories l.memory-index
