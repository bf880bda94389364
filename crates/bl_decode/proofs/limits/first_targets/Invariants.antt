use Rattle.std.proofs.Common.{◌≡◌, drop}
use Rattle.bl_wasm.specs.Limits.{first_in, targets_above}
use Rattle.bl_decode.proofs.limits.first_targets.Given as goal

abbrev pub invariant-loop-item : goal.invariant-loop-item
invariant-loop-item l = first_in targets_above (drop l.item-index l.items) ≡ first_in targets_above l.items
