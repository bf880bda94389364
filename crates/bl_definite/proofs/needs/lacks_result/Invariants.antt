use Rattle.bl_definite.proofs.Questions.{HasBelow}
use Rattle.bl_definite.specs.Search.{IsClean}
use Rattle.bl_definite.specs.declared.facts.Fact.TheVariants.{Given}
use Rattle.bl_definite.proofs.needs.lacks_result.Given as goal

abbrev pub invariant-loop-index : goal.invariant-loop-index
invariant-loop-index l = record {
  below : HasBelow l.place.parts.now l.position Given l.index;
  clean : IsClean l.place.parts.now l.search;
}
