use Rattle.std.proofs.Common.{◌≡◌, ◌++◌, map, take}
use Rattle.bl_cut.specs.Network.{var_node}
use Rattle.bl_cut.proofs.network.push_vars.Given as goal

abbrev pub invariant-loop-x : goal.invariant-loop-x
invariant-loop-x l = l.nodes.items ≡ l.fn.nodes.items ++ map (var_node l.names l.commands) (take l.x-index l.vars)
