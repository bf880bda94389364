use Rattle.std.proofs.Common.{◌≡◌, ◌++◌, [], replicate}
use Rattle.bl_seq.proofs.registers.Branch.reach.Given as goal

abbrev pub invariant-loop : goal.invariant-loop
invariant-loop l = l.self-inside.leaves.items ≡ l.initial.self-inside.leaves.items ++ replicate l.counter []
