use Rattle.std.proofs.Common.{◌≡◌, map, take}
use Rattle.bl_graph.specs.Names.{place_of}
use Rattle.bl_transient.proofs.asked.numbers_of.Given as goal

abbrev pub invariant-loop-x : goal.invariant-loop-x
invariant-loop-x l = l.numbers.items ≡ map (place_of l.names) (take l.x-index l.vars)
