use Rattle.std.proofs.Common.{◌≡◌, drop}
use Rattle.std.specs.List.{list_all}
use Rattle.bl_link.specs.Links.{data_fits}
use Rattle.bl_link.proofs.segments.data_fit.Given as goal

abbrev pub invariant-loop-segment : goal.invariant-loop-segment
invariant-loop-segment l = list_all (data_fits l.globals l.spaces l.memories) (drop l.segment-index l.segments) ≡ list_all (data_fits l.globals l.spaces l.memories) l.segments
