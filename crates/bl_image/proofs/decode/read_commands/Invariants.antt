use Rattle.std.proofs.Common.{◌≡◌, ◌≤◌, ◌+◌, ◌-◌, length, drop}
use Rattle.bl_format.specs.Image.{command}
use Rattle.bl_image.proofs.ReadChains.{SoFar}
use Rattle.bl_image.proofs.decode.read_commands.Given as goal

abbrev pub decreases-loop-place : goal.decreases-loop-place
decreases-loop-place l = length l.bytes - l.place

abbrev pub invariant-loop-place : goal.invariant-loop-place
invariant-loop-place l = record {
  inside : l.place ≤ length l.bytes;
  room : length l.commands + l.left ≡ length l.fn.start + l.most;
  so_far : SoFar command l.fn.start (drop l.at l.bytes) (drop l.place l.bytes) l.commands;
}
