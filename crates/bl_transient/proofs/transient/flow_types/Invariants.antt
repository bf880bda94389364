use Rattle.std.proofs.Common.{◌≡◌, map, take}
use Rattle.bl_transient.specs.Reachability.{flow_type}
use Rattle.bl_transient.proofs.transient.flow_types.Given as goal

abbrev pub invariant-loop-mark : goal.invariant-loop-mark
invariant-loop-mark l = l.flows ≡ map flow_type (take l.mark-index l.marks)
