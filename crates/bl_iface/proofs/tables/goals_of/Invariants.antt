use Rattle.std.proofs.Common.{◌≡◌, ◌≤◌, ◌<◌, ℕ, length, drop}
use Rattle.bl_iface.specs.PartNumbers.{goal_in}
use Rattle.bl_iface.proofs.ClientTargets.{goal_by}
use Rattle.bl_iface.proofs.tables.goals_of.Given as goal

abbrev pub invariant-loop-left : goal.invariant-loop-left
invariant-loop-left l = record {
  within : l.left ≤ length l.ours;
  many : length l.goals.items ≡ length l.client.functions;
  each : (f : ℕ) → f < length l.client.functions → goal_in l.goals.items f ≡ goal_by (drop l.left l.ours) (drop l.left l.theirs) f;
}

abbrev pub decreases-loop-left : goal.decreases-loop-left
decreases-loop-left l = l.left
