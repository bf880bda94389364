use Rattle.std.proofs.Common.{◌≡◌, drop}
use Rattle.std.specs.Cmp.Lexicographic.{pointwise}
use Rattle.bl_link.specs.ImportMatches.{same as same_of}
use Rattle.bl_link.proofs.matching.same_all.Given as goal

abbrev pub invariant-loop-i : goal.invariant-loop-i
invariant-loop-i l = pointwise same_of (drop l.i l.a) (drop l.i l.b) ≡ pointwise same_of l.a l.b
