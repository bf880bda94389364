use Rattle.bl_definite.proofs.Questions.{HasBelow}
use Rattle.bl_definite.specs.Search.{IsClean}
use Rattle.bl_definite.specs.declared.facts.Fact.TheVariants.{Argument}
use Rattle.bl_definite.proofs.needs.lacks_argument.Given as goal

abbrev pub invariant-loop-index : goal.invariant-loop-index
invariant-loop-index l = record {
  below : HasBelow l.place.parts.now l.position (λ index. Argument l.function index) l.index;
  clean : IsClean l.place.parts.now l.search;
}
