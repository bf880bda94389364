use Rattle.std.proofs.Common.{◌+◌, ◌-◌, length}
use Rattle.bl_graph.specs.Arcs.{unmarked}
use Rattle.bl_ct.specs.SecretSearch.{SearchState}
use Rattle.bl_ct.proofs.search.search.Given as goal

abbrev pub invariant-loop-next : goal.invariant-loop-next
invariant-loop-next l = SearchState l.known.program.now l.known.names.now l.marks.items l.queue.items l.next

abbrev pub decreases-loop-next : goal.decreases-loop-next
decreases-loop-next l = unmarked l.marks.items + length l.queue.items - l.next
