use Rattle.std.proofs.Common.{◌≡◌, ◌<◌, ◌-◌, ◌^◌, ℕ, length, take, slice_index, min}
use Rattle.bl_graph.specs.Certificates.{flow_through}
use Rattle.bl_graph.proofs.flows.flows_through.Given as goal

abbrev pub invariant-loop-path : goal.invariant-loop-path
invariant-loop-path l = record {
  places : length l.flows.items ≡ l.count;
  flow : (s : ℕ) → s < l.count → slice_index l.flows.items s ≡ min (flow_through (take l.path-index l.paths) s) (2 ^ 64 - 1);
}
