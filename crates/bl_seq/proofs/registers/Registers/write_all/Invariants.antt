use Rattle.std.proofs.Common.{◌≡◌, ◌+◌, drop}
use Rattle.bl_seq.specs.RegisterTrees.{filled, register_at}
use Rattle.bl_seq.proofs.registers.Registers.write_all.Given as goal

abbrev pub invariant-loop-i : goal.invariant-loop-i
invariant-loop-i l = filled (λ d v. register_at l.self d v) l.depth (l.from + l.i) (drop l.i l.numbers)
    ≡ filled (λ d v. register_at l.initial.self d v) l.depth l.from l.numbers
