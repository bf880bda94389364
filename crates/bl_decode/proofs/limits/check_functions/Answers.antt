use Rattle.std.proofs.Common.{arith}
use Rattle.std.proofs.lemmas.Slice.Zip.{Zip-more}
use Rattle.bl_decode.specs.Supported.{IsIntegerCode}
use Rattle.bl_decode.proofs.Excesses.{option_or_assoc, all_behind}
use Rattle.bl_decode.proofs.limits.check_functions.Goals as goal

pub loop-kind-preserved : goal.loop-kind-preserved
loop-kind-preserved c = record {
  can = (tt, tt);
  finite = tt;
  even = grind arith;
  rest = grind (arith, option_or_assoc);
  good = grind arith;
  bad = λ all. all_behind IsIntegerCode _ _ _ (Zip-more c.loop-kind.kind-iterator c.next.new.self c.next.result _ c.in-Some.is c.next.ensures.steps).1 (c.loop-kind.invariant.bad all);
}
