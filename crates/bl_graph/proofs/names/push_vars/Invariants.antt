use Rattle.std.proofs.Common.{◌≡◌, ◌++◌, map, take}
use Rattle.bl_graph.specs.Names.{var_of}
use Rattle.bl_graph.proofs.names.push_vars.Given as goal

abbrev pub invariant-loop-item : goal.invariant-loop-item
invariant-loop-item l = l.names.items ≡ l.fn.names.items ++ map var_of (take l.item-index l.uses)
