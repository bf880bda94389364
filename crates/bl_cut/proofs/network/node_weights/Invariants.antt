use Rattle.std.proofs.Common.{◌≡◌, length}
use Rattle.bl_cut.proofs.NetworkLemmas.{NotedFirst}
use Rattle.bl_cut.proofs.network.node_weights.Given as goal

abbrev pub invariant-loop-write : goal.invariant-loop-write
invariant-loop-write l = record {
  places : length l.weights.items ≡ l.nodes;
  noted : NotedFirst l.program l.writes l.write-index l.weights.items;
}
