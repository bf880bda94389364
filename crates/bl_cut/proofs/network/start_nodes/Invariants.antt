use Rattle.std.proofs.Common.{◌≡◌, map, take}
use Rattle.bl_cut.proofs.network.start_nodes.Given as goal

abbrev pub invariant-loop-load : goal.invariant-loop-load
invariant-loop-load l = l.nodes.items ≡ map (λ load. load.0) (take l.load-index l.loads)
