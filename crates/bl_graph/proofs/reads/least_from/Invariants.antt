use Rattle.std.proofs.Common.{take}
use Rattle.std.specs.Prelude.{option_map}
use Rattle.bl_program.specs.Sites.{Among}
use Rattle.bl_graph.specs.UseLists.{IsLeastFrom}
use Rattle.bl_graph.proofs.reads.least_from.Given as goal

abbrev pub invariant-loop-operand : goal.invariant-loop-operand
invariant-loop-operand l = IsLeastFrom (Among (take l.operand-index l.operands)) l.bound (option_map (λ var. var.0) l.least)
