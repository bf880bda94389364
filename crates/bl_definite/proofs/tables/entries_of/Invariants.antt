use Rattle.std.proofs.Common.{◌≡◌}
use Rattle.bl_program.specs.Layout.{entry_of}
use Rattle.bl_program.specs.Layout.{AreValues}
use Rattle.bl_definite.proofs.tables.entries_of.Given as goal

abbrev pub invariant-loop-function : goal.invariant-loop-function
invariant-loop-function l = record {
  values : AreValues (entry_of l.fn.parts) l.function-index l.entries;
  last : l.entry ≡ entry_of l.fn.parts l.function-index;
}
