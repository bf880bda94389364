use Rattle.std.proofs.Common.{◌≡◌, ◌≤◌, replicate}
use Rattle.bl_predict.proofs.driver.counters.Given as goal

abbrev pub invariant-loop : goal.invariant-loop
invariant-loop l = (l.counters.items ≡ replicate l.counter 1) × (l.counter ≤ l.count)
