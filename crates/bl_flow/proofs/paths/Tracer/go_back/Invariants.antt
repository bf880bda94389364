use Rattle.std.proofs.Common.{◌<◌, ◌+◌, length}
use Rattle.bl_flow.specs.SplitNetworks.{IsTracing}
use Rattle.bl_flow.specs.Traces.{OnTrace}
use Rattle.bl_flow.proofs.TraceLemmas.{off_trail}
use Rattle.bl_flow.proofs.paths.Tracer.go_back.Given as goal

abbrev pub invariant-loop-at : goal.invariant-loop-at
invariant-loop-at l = record {
  inside : l.at < length l.split.rows;
  tracing : IsTracing l.split l.carries l.self.passed.items l.self.places.items;
  trace : OnTrace l.split.links (length l.carries) l.carries l.self.places.items l.self.trail.items (l.source + 1) l.at;
}

abbrev pub decreases-loop-at : goal.decreases-loop-at
decreases-loop-at l = off_trail l.split.links l.self.places.items l.self.trail.items (length l.split.rows)
