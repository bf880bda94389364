use Rattle.std.proofs.Common.{◌-◌, length, slice_index}
use Rattle.bl_flow.specs.Searches.{part_row}
use Rattle.bl_flow.specs.SplitNetworks.{rows_in}
use Rattle.bl_flow.specs.Traces.{ArePassedOver}
use Rattle.bl_flow.proofs.paths.next_carrying.Given as goal

abbrev pub invariant-loop-link : goal.invariant-loop-link
invariant-loop-link l = ArePassedOver l.carries (rows_in l.split) l.passed

abbrev pub decreases-loop-link : goal.decreases-loop-link
decreases-loop-link l = length (part_row (rows_in l.split) l.part) - slice_index l.passed l.part
