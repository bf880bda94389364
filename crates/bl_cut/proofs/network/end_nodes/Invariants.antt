use Rattle.std.proofs.Common.{◌≡◌, map, take}
use Rattle.bl_cut.specs.Network.{sink_node}
use Rattle.bl_cut.proofs.network.end_nodes.Given as goal

abbrev pub invariant-loop-sink : goal.invariant-loop-sink
invariant-loop-sink l = l.nodes.items ≡ map (sink_node l.names l.commands) (take l.sink-index l.sinks)
