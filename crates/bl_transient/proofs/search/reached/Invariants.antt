use Rattle.std.proofs.Common.{◌+◌, ◌-◌, length, map}
use Rattle.bl_graph.specs.Arcs.{unmarked}
use Rattle.bl_transient.specs.Reachability.{SearchState}
use Rattle.bl_transient.proofs.search.reached.Given as goal

abbrev pub invariant-loop-next : goal.invariant-loop-next
invariant-loop-next l = SearchState (map (λ row. row.items) l.rows) l.roots l.marks.items l.queue.items l.next

abbrev pub decreases-loop-next : goal.decreases-loop-next
decreases-loop-next l = unmarked l.marks.items + length l.queue.items - l.next
