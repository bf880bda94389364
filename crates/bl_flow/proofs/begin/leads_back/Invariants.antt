use Rattle.std.proofs.Common.{◌<◌, ◌+◌, ℕ, length, slice_index, take}
use Rattle.bl_flow.specs.Flows.{LeadsBack}
use Rattle.bl_flow.proofs.begin.leads_back.Given as goal

abbrev pub invariant-loop-link : goal.invariant-loop-link
invariant-loop-link l = record {
  within : (place : ℕ) → place < l.link-index → slice_index l.trail place < length l.split.links;
  back : LeadsBack l.split.links (take l.link-index l.trail) l.at (l.source + 1);
}
