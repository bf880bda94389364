use Rattle.std.proofs.Common.{◌≡◌, All, length}
use Rattle.std.specs.List.{zip}
use Rattle.std.specs.Option.{option_or}
use Rattle.std.specs.Iterator.Adapters.{zip_first, zip_second}
use Rattle.std.specs.Slice.Iter.{iter_rest}
use Rattle.bl_wasm.specs.Limits.{first_in, function_excess}
use Rattle.bl_decode.specs.Supported.{IsIntegerCode}
use Rattle.bl_decode.proofs.limits.check_functions.Given as goal

abbrev pub invariant-loop-kind : goal.invariant-loop-kind
invariant-loop-kind l = record {
  can : (goal.iterator-loop-kind).can_next l.kind-iterator;
  finite : (goal.iterator-loop-kind).is_finite l.kind-iterator;
  even : length (iter_rest (zip_first l.kind-iterator)) ≡ length (iter_rest (zip_second l.kind-iterator));
  rest : option_or l.excess (first_in (function_excess l.types) (zip (iter_rest (zip_first l.kind-iterator)) (iter_rest (zip_second l.kind-iterator)))) ≡ first_in (function_excess l.types) (zip l.kinds l.bodies);
  good : All IsIntegerCode (iter_rest (zip_second l.kind-iterator)) → All IsIntegerCode l.bodies;
  bad : All IsIntegerCode l.bodies → All IsIntegerCode (iter_rest (zip_second l.kind-iterator));
}
