use Rattle.std.proofs.Common.{◌↔◌, ◌++◌, List, length, take, ◌≤◌}
use Rattle.bl_wasm.specs.declared.types.WasmType.{WasmType}
use Rattle.bl_validate.specs.MayStand.{MayStand}
use Rattle.bl_validate.proofs.operands.Operands.pop.Given as goal

abbrev pub invariant-loop-left : goal.invariant-loop-left
invariant-loop-left l =
    (l.left ≤ length l.wanted) × ((s : List WasmType) → MayStand l.fn.self (s ++ l.wanted) ↔ MayStand l.self (s ++ take l.left l.wanted))

abbrev pub decreases-loop-left : goal.decreases-loop-left
decreases-loop-left l = l.left
