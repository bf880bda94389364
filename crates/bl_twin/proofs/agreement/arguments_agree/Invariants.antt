use Rattle.bl_twin.proofs.PublicLists.{AgreeBelow}
use Rattle.bl_twin.proofs.agreement.arguments_agree.Given as goal

abbrev pub invariant-loop-i : goal.invariant-loop-i
invariant-loop-i l = AgreeBelow (λ param. param.label) l.params l.one l.other l.i
