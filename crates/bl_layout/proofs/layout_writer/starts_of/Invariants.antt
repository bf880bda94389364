use Rattle.std.proofs.Common.{◌≡◌, ◌+◌, ◌*◌, ◌≤◌, ℕ, length, slice_index}
use Rattle.bl_layout.specs.Blocks.{count_from}
use Rattle.bl_layout.proofs.layout_writer.starts_of.Given as goal

abbrev pub invariant-loop-position : goal.invariant-loop-position
invariant-loop-position l = record {
  count : length l.starts.items ≡ l.position + 1;
  each : (k : ℕ) → k ≤ l.position → slice_index l.starts.items k ≡ count_from l.layout.parts.now (slice_index l.targets) 0 l.layout.parts.now.commands k;
  last : l.start ≡ count_from l.layout.parts.now (slice_index l.targets) 0 l.layout.parts.now.commands l.position;
  few : l.start ≤ 21 * l.position;
}
