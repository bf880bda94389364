use Rattle.std.proofs.Common.{◌≡◌, ◌+◌, Bool, ℕ, length, slice_index}
use Rattle.bl_flow.specs.Flows.{leaves}
use Rattle.bl_flow.specs.Balances.{worth}
use Rattle.bl_flow.proofs.balance.add_leaving.Given as goal

abbrev pub invariant-loop-k : goal.invariant-loop-k
invariant-loop-k l = record {
  places : length l.numbers ≡ length l.fn.numbers;
  sums : (set : ℕ → Bool) → worth l.numbers set ≡ worth l.fn.numbers set + leaves l.links l.k (slice_index l.carried) set;
}
