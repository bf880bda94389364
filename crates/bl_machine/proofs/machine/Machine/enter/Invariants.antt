use Rattle.std.proofs.Common.{◌≡◌, ◌++◌, replicate}
use Rattle.bl_machine.proofs.machine.Machine.enter.Given as goal

abbrev pub invariant-loop : goal.invariant-loop
invariant-loop l = l.self ≡ record l.initial.self { locals = l.initial.self.locals ++ replicate l.counter 0 }
