use Rattle.std.proofs.Common.{ℕ, ◌<◌, ◌≤◌, ◌+◌, length, slice_index}
use Rattle.bl_base.specs.Sums.{sum_below}
use Rattle.bl_flow.specs.Flows.{IsCarried, link_count}
use Rattle.bl_flow.specs.SplitNetworks.{IsTracing}
use Rattle.bl_flow.specs.Traces.{OnTrace}
use Rattle.bl_flow.proofs.paths.trace.Given as goal

abbrev pub invariant-loop-at : goal.invariant-loop-at
invariant-loop-at g l = record {
  inside : l.at < length l.split.rows;
  carried_ : IsCarried g.n l.carries l.left;
  less : (k : ℕ) → slice_index l.carries k ≤ slice_index l.fn.carries k;
  tracing : IsTracing l.split l.carries l.tracer.passed.items l.tracer.places.items;
  trace : OnTrace l.split.links (link_count g.n) l.carries l.tracer.places.items l.tracer.trail.items (l.source + 1) l.at;
}

abbrev pub decreases-loop-at : goal.decreases-loop-at
decreases-loop-at g l = sum_below (link_count g.n) (λ k. slice_index l.carries k)
