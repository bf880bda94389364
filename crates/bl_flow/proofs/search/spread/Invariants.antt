use Rattle.std.proofs.Common.{◌+◌, ◌-◌, ◌^◌, length}
use Rattle.bl_flow.specs.Levels.{Spread, distance}
use Rattle.bl_flow.proofs.search.spread.Given as goal

abbrev pub invariant-loop-next : goal.invariant-loop-next
invariant-loop-next l = Spread l.split.links l.capacities l.end l.stops l.fn.levels l.fn.queue l.levels l.queue l.next

abbrev pub decreases-loop-next : goal.decreases-loop-next
decreases-loop-next l = distance (2 ^ 32) l.levels + length l.queue - l.next
