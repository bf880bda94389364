use Rattle.std.proofs.Common.{◌≡◌, map}
use Rattle.std.specs.List.{range_with_len}
use Rattle.bl_labels.specs.LabelledPlaces.{is_place as is_place_of}
use Rattle.bl_link.proofs.bodies.demands.Given as goal

abbrev pub invariant-loop-index : goal.invariant-loop-index
invariant-loop-index l = l.demands ≡ map (is_place_of l.marks.results l.function) (range_with_len 0 l.index)
