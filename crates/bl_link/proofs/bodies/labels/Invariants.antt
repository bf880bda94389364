use Rattle.std.proofs.Common.{◌≡◌, map}
use Rattle.std.specs.List.{range_with_len}
use Rattle.bl_labels.specs.LabelledPlaces.{is_place as is_place_of}
use Rattle.bl_link.specs.Links.{secret_if as secret_if_of}
use Rattle.bl_link.proofs.bodies.labels.Given as goal

abbrev pub invariant-loop-param : goal.invariant-loop-param
invariant-loop-param l = l.labels ≡ map (λ param. secret_if_of (is_place_of l.marks.params l.function param)) (range_with_len 0 l.param)
