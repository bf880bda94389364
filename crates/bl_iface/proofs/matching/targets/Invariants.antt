use Rattle.bl_iface.proofs.FunctionLookup.{SoFar}
use Rattle.bl_iface.proofs.matching.targets.Given as goal

-- the targets of the functions so far
abbrev pub invariant-loop-index : goal.invariant-loop-index
invariant-loop-index l = SoFar l.fn.program l.fn.iface.functions l.index l.targets
