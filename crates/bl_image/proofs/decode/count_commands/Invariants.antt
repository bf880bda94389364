use Rattle.std.proofs.Common.{◌≤◌, ◌-◌, length, drop}
use Rattle.bl_format.specs.Image.{command}
use Rattle.bl_image.proofs.ReadChains.{Counted}
use Rattle.bl_image.proofs.decode.count_commands.Given as goal

abbrev pub decreases-loop-next : goal.decreases-loop-next
decreases-loop-next l = length l.bytes - l.next

abbrev pub invariant-loop-next : goal.invariant-loop-next
invariant-loop-next l = record {
  inside : l.next ≤ length l.bytes;
  few : l.count ≤ l.next;
  counted : Counted command (drop l.at l.bytes) (drop l.next l.bytes) l.count;
}
