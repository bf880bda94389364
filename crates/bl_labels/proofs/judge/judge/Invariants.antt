use Rattle.bl_labels.proofs.FaultLemmas.{SoFar}
use Rattle.bl_labels.proofs.judge.judge.Given as goal

abbrev pub invariant-loop-entry : goal.invariant-loop-entry
invariant-loop-entry l = SoFar l.wasm l.entries l.entry-index l.marks
