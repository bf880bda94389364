use Rattle.std.proofs.Common.{◌<◌, ◌≤◌, ℕ, length, slice_index}
use Rattle.bl_flow.proofs.paths.least_amount.Given as goal

abbrev pub invariant-loop-link : goal.invariant-loop-link
invariant-loop-link l = record {
  least : (place : ℕ) → place < l.link-index → l.amount ≤ slice_index l.carries (slice_index l.trail place);
  some : ((place : ℕ) → place < length l.trail → 0 < slice_index l.carries (slice_index l.trail place)) → 0 < l.amount;
}
