use Rattle.std.proofs.Common.{◌≡◌}
use Rattle.bl_program.specs.Layout.{first_of}
use Rattle.bl_program.specs.Layout.{AreValues}
use Rattle.bl_program.proofs.layout.firsts_of.Given as goal

abbrev pub invariant-loop-function : goal.invariant-loop-function
invariant-loop-function l = record {
  values : AreValues (first_of l.fn.parts) l.function-index l.firsts;
  last : l.first ≡ first_of l.fn.parts l.function-index;
}
