use Rattle.std.proofs.Common.{◌≡◌, ◌++◌}
use Rattle.bl_gen.specs.GeneratedModule.{items}
use Rattle.bl_gen.proofs.function.push_items.Given as goal

abbrev pub invariant-loop-j : goal.invariant-loop-j
invariant-loop-j l = l.to.items ≡ l.fn.to.items ++ items l.seed l.i l.j
