use Rattle.std.proofs.Common.{◌≡◌, ◌+◌, ◌++◌, map, drop}
use Rattle.std.specs.List.{enumerate_from}
use Rattle.bl_link.specs.Links.{global}
use Rattle.bl_link.proofs.defined.with_globals.Given as goal

abbrev pub invariant-loop-one : goal.invariant-loop-one
invariant-loop-one l = record {
  whole : l.more.items ++ map (global l.fn.before l.marks l.spaces) (enumerate_from l.at (drop l.one-index l.defined)) ≡ map (global l.fn.before l.marks l.spaces) (enumerate_from l.fn.imported l.fn.defined);
  place : l.at ≡ l.fn.imported + l.one-index;
}
