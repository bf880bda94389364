use Rattle.std.specs.FinSet as fin
use Rattle.bl_cut.proofs.MarkSteps.{MarkedFirst}
use Rattle.bl_cut.proofs.marks.mark_all.Given as goal

abbrev pub invariant-loop-at : goal.invariant-loop-at
invariant-loop-at l = MarkedFirst (fin.contains l.protects) 0 l.initial.commands l.at l.commands
