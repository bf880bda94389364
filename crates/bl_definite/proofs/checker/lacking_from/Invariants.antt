use Rattle.std.proofs.Common.{◌≡◌, true}
use Rattle.bl_definite.specs.Search.{AreEarly, IsClean, IsStraight}
use Rattle.bl_definite.proofs.Questions.{AreDefiniteBelow}
use Rattle.bl_definite.proofs.checker.lacking_from.Given as goal

abbrev pub invariant-loop-position : goal.invariant-loop-position
invariant-loop-position l = record {
  below : AreDefiniteBelow l.place.parts.now l.place.function l.position;
  clean : IsClean l.place.parts.now l.search;
  early : AreEarly l.place.parts.now l.place.function l.position l.early;
  straight : l.straight ≡ true → IsStraight l.place.parts.now l.place.function l.position;
}
