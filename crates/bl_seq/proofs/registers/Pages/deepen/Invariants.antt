use Rattle.std.proofs.Common.{◌≡◌, ◌++◌, replicate}
use Rattle.bl_seq.specs.RegisterTrees.{bare}
use Rattle.bl_seq.proofs.registers.Pages.deepen.Given as goal

abbrev pub invariant-loop : goal.invariant-loop
invariant-loop l = l.self-inside.depths.items ≡ l.initial.self-inside.depths.items ++ replicate l.counter bare
