use Rattle.bl_definite.proofs.Arrivals.{Entering}
use Rattle.bl_definite.proofs.search.enter.Given as goal

abbrev pub invariant-loop-number : goal.invariant-loop-number
invariant-loop-number l = Entering l.place.parts.now l.place.function l.fact l.position l.place.tables.now.entrants l.number l.fn.search l.search

abbrev pub decreases-loop-number : goal.decreases-loop-number
decreases-loop-number l = l.number
