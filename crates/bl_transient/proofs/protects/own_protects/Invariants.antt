use Rattle.bl_base.proofs.PositionSets.{HoldsBelow}
use Rattle.bl_program.specs.Sites.{is_protected}
use Rattle.bl_transient.proofs.protects.own_protects.Given as goal

abbrev pub invariant-loop-s : goal.invariant-loop-s
invariant-loop-s l = HoldsBelow (is_protected l.parts) l.set l.s
