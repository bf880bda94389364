use Rattle.std.proofs.Common.{◌≡◌, drop}
use Rattle.std.specs.List.{list_all}
use Rattle.bl_link.specs.Links.{element_fits}
use Rattle.bl_link.proofs.segments.elements_fit.Given as goal

abbrev pub invariant-loop-segment : goal.invariant-loop-segment
invariant-loop-segment l = list_all (element_fits l.globals l.spaces l.tables) (drop l.segment-index l.segments) ≡ list_all (element_fits l.globals l.spaces l.tables) l.segments
