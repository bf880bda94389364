use Rattle.std.proofs.Common.{◌≡◌, drop}
use Rattle.std.specs.Prelude.{fold, IsTrue}
use Rattle.std.specs.List.{list_all}
use Rattle.bl_link.specs.Links.{data_fits, put_data}
use Rattle.bl_link.proofs.segments.with_data.Given as goal

abbrev pub invariant-loop-segment : goal.invariant-loop-segment
invariant-loop-segment l = record {
  fits : IsTrue (list_all (data_fits l.globals l.spaces l.cells.items) (drop l.segment-index l.segments));
  whole : fold (put_data l.globals l.spaces) l.cells.items (drop l.segment-index l.segments) ≡ fold (put_data l.globals l.spaces) l.fn.memories l.fn.segments;
}
