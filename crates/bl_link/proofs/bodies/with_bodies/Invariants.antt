use Rattle.std.proofs.Common.{◌≡◌, ◌+◌, ◌++◌, map, drop, length}
use Rattle.std.specs.List.{enumerate_from, zip}
use Rattle.std.specs.Vec.Iter.{into_iter_items, into_iter_len}
use Rattle.bl_link.specs.Links.{function}
use Rattle.bl_link.proofs.bodies.with_bodies.Given as goal

abbrev pub invariant-loop-index : goal.invariant-loop-index
invariant-loop-index l = record {
  whole : l.functions ++ map (function l.types l.marks l.spaces) (enumerate_from l.at (zip (drop l.index-index l.indices) (into_iter_items l.rest))) ≡ l.fn.before ++ map (function l.types l.marks l.spaces) (enumerate_from l.fn.imported (zip l.fn.indices l.fn.bodies));
  place : l.at ≡ l.fn.imported + l.index-index;
  counted : into_iter_len l.rest ≡ length (into_iter_items l.rest);
}
