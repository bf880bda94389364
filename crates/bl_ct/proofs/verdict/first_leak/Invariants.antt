use Rattle.std.proofs.Common.{◌≤◌, ◌-◌, None, length, take}
use Rattle.bl_ct.specs.Leaks.{LeakFound}
use Rattle.bl_ct.proofs.verdict.first_leak.Given as goal

abbrev pub invariant-loop-place : goal.invariant-loop-place
invariant-loop-place l = record {
  within : l.place ≤ length l.queue;
  none : LeakFound l.names (take l.place l.queue) l.ends l.demanded None;
}

abbrev pub decreases-loop-place : goal.decreases-loop-place
decreases-loop-place l = length l.queue - l.place
