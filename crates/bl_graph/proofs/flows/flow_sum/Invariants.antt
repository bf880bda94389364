use Rattle.std.proofs.Common.{◌≡◌, ◌-◌, ◌^◌, take, min}
use Rattle.bl_graph.specs.Certificates.{flow_of}
use Rattle.bl_graph.proofs.flows.flow_sum.Given as goal

abbrev pub invariant-loop-path : goal.invariant-loop-path
invariant-loop-path l = l.sum ≡ min (flow_of (take l.path-index l.paths)) (2 ^ 64 - 1)
