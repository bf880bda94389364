use Rattle.std.proofs.Common.{◌≡◌, ◌+◌, Bool, ℕ, length, slice_index}
use Rattle.bl_flow.specs.Flows.{enters}
use Rattle.bl_flow.specs.Balances.{worth}
use Rattle.bl_flow.proofs.balance.add_entering.Given as goal

abbrev pub invariant-loop-k : goal.invariant-loop-k
invariant-loop-k l = record {
  places : length l.numbers ≡ length l.fn.numbers;
  sums : (set : ℕ → Bool) → worth l.numbers set ≡ worth l.fn.numbers set + enters l.links l.k (slice_index l.carried) set;
}
