use Rattle.std.proofs.Common.{◌≡◌, ◌≤◌}
use Rattle.bl_program.specs.Layout.{sum_before}
use Rattle.bl_program.specs.declared.definitions.FunctionDef.{FunctionDef}
use Rattle.bl_cmd.proofs.parts.have_few.Given as goal

abbrev pub invariant-loop-function : goal.invariant-loop-function
invariant-loop-function l = record {
  few : l.total ≤ l.most;
  is : l.total ≡ sum_before (λ (function : FunctionDef). function.vars) l.functions l.function-index;
}
