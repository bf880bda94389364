use Rattle.std.proofs.Common.{◌≡◌, ◌++◌, codes}
use Rattle.std.specs.Iterator.Adapters.{zip_first, zip_second}
use Rattle.std.specs.Slice.Iter.{iter_rest}
use Rattle.bl_outcome.specs.Outcomes.{values_text}
use Rattle.bl_outcome.proofs.outcome.returned_line.Given as goal

abbrev pub invariant-loop-kind : goal.invariant-loop-kind
invariant-loop-kind l = record {
  can : (goal.iterator-loop-kind).can_next l.kind-iterator;
  finite : (goal.iterator-loop-kind).is_finite l.kind-iterator;
  rest : l.text.items ++ values_text (iter_rest (zip_first l.kind-iterator)) (iter_rest (zip_second l.kind-iterator)) ≡ codes "returned" ++ values_text l.kinds l.values;
}
