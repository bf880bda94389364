use Rattle.std.proofs.Common.{take}
use Rattle.std.specs.List.{All}
use Rattle.bl_iface.specs.JoinedProgram.{IsWithin}
use Rattle.bl_iface.proofs.limits.first_over.Given as goal

abbrev pub invariant-loop-sum : goal.invariant-loop-sum
invariant-loop-sum l = All IsWithin (take l.sum-index l.sums)
