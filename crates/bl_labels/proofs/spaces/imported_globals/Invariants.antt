use Rattle.bl_wasm.specs.Validity.{global_of}
use Rattle.bl_labels.proofs.CountLemmas.{Counted}
use Rattle.bl_labels.proofs.spaces.imported_globals.Given as goal

abbrev pub invariant-loop-entry : goal.invariant-loop-entry
invariant-loop-entry l = Counted global_of l.imports l.entry-index l.count
