use Rattle.std.proofs.Common.{◌≡◌, ◌++◌}
use Rattle.std.specs.Prelude.{replicate}
use Rattle.bl_gen.specs.GeneratedModule.{leb}
use Rattle.bl_gen.proofs.module.push_functions.Given as goal

abbrev pub invariant-loop : goal.invariant-loop
invariant-loop l = l.contents.items ≡ leb l.size ++ replicate l.counter 0
