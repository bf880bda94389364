use Rattle.std.proofs.Common.{◌≡◌, ◌++◌}
use Rattle.std.specs.List.{flat_map, range_with_len}
use Rattle.bl_gen.specs.GeneratedModule.{function, sized}
use Rattle.bl_gen.proofs.module.push_bodies.Given as goal

abbrev pub invariant-loop-i : goal.invariant-loop-i
invariant-loop-i l = l.to.items ≡ l.fn.to.items ++ flat_map (λ i. sized (function l.seed i)) (range_with_len 0 l.i)
