use Rattle.std.proofs.Common.{◌≡◌, drop}
use Rattle.std.specs.Prelude.{fold, IsTrue}
use Rattle.std.specs.List.{list_all}
use Rattle.bl_link.specs.Links.{element_fits, put_element}
use Rattle.bl_link.proofs.segments.with_elements.Given as goal

abbrev pub invariant-loop-segment : goal.invariant-loop-segment
invariant-loop-segment l = record {
  fits : IsTrue (list_all (element_fits l.globals l.spaces l.cells.items) (drop l.segment-index l.segments));
  whole : fold (put_element l.globals l.spaces) l.cells.items (drop l.segment-index l.segments) ≡ fold (put_element l.globals l.spaces) l.fn.tables l.fn.segments;
}
