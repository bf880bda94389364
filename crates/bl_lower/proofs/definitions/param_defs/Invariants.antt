use Rattle.std.proofs.Common.{◌≡◌, ◌++◌, map}
use Rattle.bl_lower.specs.Trees.{param_def}
use Rattle.std.specs.List.{zip}
use Rattle.std.specs.Iterator.Adapters.{zip_first, zip_second}
use Rattle.std.specs.Slice.Iter.{iter_rest}
use Rattle.bl_lower.proofs.definitions.param_defs.Given as goal

abbrev pub invariant-loop-kind : goal.invariant-loop-kind
invariant-loop-kind l = record {
  can : (goal.iterator-loop-kind).can_next l.kind-iterator;
  finite : (goal.iterator-loop-kind).is_finite l.kind-iterator;
  rest : l.all ++ map param_def (zip (iter_rest (zip_first l.kind-iterator)) (iter_rest (zip_second l.kind-iterator))) ≡ map param_def (zip l.kinds l.labels);
}
