use Rattle.bl_definite.specs.Search.{IsClean}
use Rattle.bl_definite.proofs.Questions.{AreDefiniteBefore}
use Rattle.bl_definite.proofs.checker.lacking_among.Given as goal

abbrev pub invariant-loop-function : goal.invariant-loop-function
invariant-loop-function l = record {
  before : AreDefiniteBefore l.parts l.function;
  clean : IsClean l.parts l.search;
}
