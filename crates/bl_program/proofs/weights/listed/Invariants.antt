use Rattle.std.proofs.Common.{◌≡◌, ◌≤◌, ◌<◌, ◌-◌, ℕ, length, Some, slice_get}
use Rattle.bl_program.specs.declared.definitions.SiteWeight.{SiteWeight}
use Rattle.bl_program.proofs.weights.listed.Given as goal

abbrev pub decreases-loop-low : goal.decreases-loop-low
decreases-loop-low l = l.high - l.low

abbrev pub invariant-loop-low : goal.invariant-loop-low
invariant-loop-low l = record {
  within : l.high ≤ length l.weights;
  order : l.low ≤ l.high;
  before : (k : ℕ) (entry : SiteWeight) → k < l.low → slice_get l.weights k ≡ Some entry → entry.at.0 < l.at;
  behind : (k : ℕ) (entry : SiteWeight) → l.high ≤ k → slice_get l.weights k ≡ Some entry → l.at < entry.at.0;
}
