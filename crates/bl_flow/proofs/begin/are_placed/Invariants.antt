use Rattle.std.proofs.Common.{◌<◌, ◌≡◌, ℕ, slice_index}
use Rattle.bl_flow.specs.Split.{link_at}
use Rattle.bl_flow.proofs.begin.are_placed.Given as goal

abbrev pub invariant-loop-place : goal.invariant-loop-place
invariant-loop-place l = (k : ℕ) → k < l.place → slice_index l.places (link_at l.links (slice_index l.trail k)).to ≡ k
