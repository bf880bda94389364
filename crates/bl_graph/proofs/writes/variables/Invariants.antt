use Rattle.std.proofs.Common.{◌≡◌}
use Rattle.bl_program.specs.Layout.{first_of}
use Rattle.bl_graph.proofs.writes.variables.Given as goal

abbrev pub invariant-loop-function : goal.invariant-loop-function
invariant-loop-function l = l.count ≡ first_of l.program l.function-index
