use Rattle.std.proofs.Common.{◌≡◌, ◌^◌, ℕ, ◌<◌, None, length, slice_get, slice_index, unwrap_or}
use Rattle.bl_flow.proofs.capacities.Capacities.of.Given as goal

abbrev pub invariant-loop-v : goal.invariant-loop-v
invariant-loop-v l = record {
  places : length l.through.items ≡ l.v;
  all : (j : ℕ) → j < l.v → slice_index l.through.items j ≡ unwrap_or (unwrap_or (slice_get l.weights j) None) (2 ^ 63);
}
