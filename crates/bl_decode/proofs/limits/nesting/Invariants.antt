use Rattle.std.proofs.Common.{◌≡◌, ◌+◌, ◌≤◌}
use Rattle.bl_wasm.specs.Limits.{greatest_depth}
use Rattle.bl_wasm.specs.OpenConstructs.{depth_at}
use Rattle.bl_decode.proofs.limits.nesting.Given as goal

abbrev pub invariant-loop-item : goal.invariant-loop-item
invariant-loop-item l = record {
  depth : l.depth ≡ depth_at l.items l.item-index;
  few : l.depth ≤ l.item-index;
  deepest : l.deepest ≡ greatest_depth l.items (l.item-index + 1);
}
