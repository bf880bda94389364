use Rattle.bl_definite.proofs.LinkLemmas.{AreNotedBelow}
use Rattle.bl_definite.proofs.tables.entrants_of.Given as goal

abbrev pub invariant-loop-from : goal.invariant-loop-from
invariant-loop-from l = AreNotedBelow l.commands l.from l.entrants
