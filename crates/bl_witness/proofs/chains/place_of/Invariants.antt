use Rattle.std.proofs.Common.{◌≡◌, ◌≤◌, ◌<◌, ◌-◌, ℕ, length, Some, slice_get}
use Rattle.bl_graph.specs.Graphs.{Precedes}
use Rattle.bl_graph.specs.declared.facts.Use.{Use}
use Rattle.bl_witness.proofs.chains.place_of.Given as goal

abbrev pub decreases-loop-low : goal.decreases-loop-low
decreases-loop-low l = l.high - l.low

abbrev pub invariant-loop-low : goal.invariant-loop-low
invariant-loop-low l = record {
  within : l.high ≤ length l.items;
  order : l.low ≤ l.high;
  before : (k : ℕ) (u : Use) → k < l.low → slice_get l.items k ≡ Some u → Precedes u l.one;
  behind : (k : ℕ) (u : Use) → l.high ≤ k → slice_get l.items k ≡ Some u → Precedes u l.one → ⊥;
}
