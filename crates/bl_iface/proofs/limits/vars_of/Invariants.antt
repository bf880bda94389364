use Rattle.std.proofs.Common.{◌≡◌}
use Rattle.bl_program.specs.Layout.{first_of}
use Rattle.bl_iface.proofs.limits.vars_of.Given as goal

abbrev pub invariant-loop-function : goal.invariant-loop-function
invariant-loop-function l = l.total ≡ first_of l.fn.parts l.function-index
