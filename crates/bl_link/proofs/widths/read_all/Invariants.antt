use Rattle.std.proofs.Common.{take}
use Rattle.std.specs.List.{All}
use Rattle.bl_wasm.specs.Linked.{HasImmediates}
use Rattle.bl_link.proofs.widths.read_all.Given as goal

abbrev pub invariant-loop-item : goal.invariant-loop-item
invariant-loop-item l = All HasImmediates (take l.item-index l.items)
