use Rattle.std.proofs.Common.{◌≡◌, ◌+◌}
use Rattle.bl_program.specs.Layout.{sum_before}
use Rattle.bl_program.specs.declared.definitions.FunctionDef.{FunctionDef}
use Rattle.bl_image.proofs.decode.room_behind.Given as goal

abbrev pub invariant-loop-function : goal.invariant-loop-function
invariant-loop-function l = l.room ≡ sum_before (λ (f : FunctionDef). f.length) l.functions l.function-index + l.left
