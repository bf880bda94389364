use Rattle.std.proofs.Common.{◌≡◌, ◌+◌, ◌<◌, ℕ, length, slice_index}
use Rattle.bl_flow.proofs.capacities.left_through.Given as goal

abbrev pub invariant-loop-v : goal.invariant-loop-v
invariant-loop-v l = record {
  places : length l.left.items ≡ l.v;
  each : (j : ℕ) → j < l.v → slice_index l.left.items j + slice_index l.now j ≡ slice_index l.through j + slice_index l.before j;
}
