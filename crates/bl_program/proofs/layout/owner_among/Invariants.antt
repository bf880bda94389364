use Rattle.std.proofs.Common.{◌≤◌, ◌<◌, ◌-◌, length, get_or}
use Rattle.bl_program.proofs.layout.owner_among.Given as goal

abbrev pub decreases-loop-high : goal.decreases-loop-high
decreases-loop-high l = l.high - l.low

abbrev pub invariant-loop-high : goal.invariant-loop-high
invariant-loop-high l = record {
  order : l.low < l.high;
  within : l.high < length l.firsts;
  from : get_or l.firsts l.low 0 ≤ l.x;
  below : l.x < get_or l.firsts l.high 0;
}
