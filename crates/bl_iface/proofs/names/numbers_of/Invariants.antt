use Rattle.std.proofs.Common.{◌≤◌, length, drop}
use Rattle.bl_iface.specs.Names.{IsDirectory}
use Rattle.bl_iface.proofs.names.numbers_of.Given as goal

abbrev pub invariant-loop-left : goal.invariant-loop-left
invariant-loop-left l = record {
  within : l.left ≤ length l.exports;
  behind : IsDirectory (drop l.left l.exports) l.numbers;
}

abbrev pub decreases-loop-left : goal.decreases-loop-left
decreases-loop-left l = l.left
