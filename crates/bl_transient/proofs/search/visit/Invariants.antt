use Rattle.std.proofs.Common.{take}
use Rattle.bl_transient.specs.Reachability.{IsVisited}
use Rattle.bl_transient.proofs.search.visit.Given as goal

abbrev pub invariant-loop-node : goal.invariant-loop-node
invariant-loop-node l = IsVisited (take l.node-index l.row) l.fn.marks l.marks l.fn.queue.items l.queue.items
