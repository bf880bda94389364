use Rattle.std.proofs.Common.{◌≡◌, ◌++◌, [], replicate}
use Rattle.bl_seq.proofs.registers.Tree.widen.Given as goal

abbrev pub invariant-loop : goal.invariant-loop
invariant-loop l = (l.self-inside.branches.items ≡ l.initial.self-inside.branches.items ++ replicate l.counter [])
    × (l.self-inside.strays.entries ≡ l.initial.self-inside.strays.entries)
