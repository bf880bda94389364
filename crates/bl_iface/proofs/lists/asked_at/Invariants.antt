use Rattle.bl_iface.proofs.RoleListLemmas.{AskedSoFar}
use Rattle.bl_iface.proofs.lists.asked_at.Given as goal

-- the lists have exactly what is asked of the functions so far
abbrev pub invariant-loop-index : goal.invariant-loop-index
invariant-loop-index l = AskedSoFar l.role l.iface l.parts l.index l.asked
