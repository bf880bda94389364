use Rattle.std.proofs.Common.{◌≡◌, ◌+◌}
use Rattle.bl_program.specs.Layout.{sum_before}
use Rattle.bl_program.specs.declared.definitions.FunctionDef.{FunctionDef}
use Rattle.bl_program.proofs.program.fill.Given as goal

abbrev pub invariant-loop-function : goal.invariant-loop-function
invariant-loop-function l = l.count ≡ 7 + sum_before (λ (f : FunctionDef). f.length) l.functions l.function-index + l.rest
