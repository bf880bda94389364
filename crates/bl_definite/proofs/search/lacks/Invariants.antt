use Rattle.bl_definite.proofs.Steps.{Searching}
use Rattle.bl_definite.specs.Search.{work}
use Rattle.bl_definite.proofs.search.lacks.Given as goal

abbrev pub invariant-loop-next : goal.invariant-loop-next
invariant-loop-next l = Searching l.place.parts.now l.place.function l.fact l.position l.search

abbrev pub decreases-loop-next : goal.decreases-loop-next
decreases-loop-next l = work l.fact l.search
