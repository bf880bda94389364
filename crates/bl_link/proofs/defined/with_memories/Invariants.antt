use Rattle.std.proofs.Common.{◌≡◌, ◌+◌, ◌++◌, map, drop}
use Rattle.std.specs.List.{enumerate_from}
use Rattle.bl_link.specs.Links.{memory}
use Rattle.bl_link.proofs.defined.with_memories.Given as goal

abbrev pub invariant-loop-limits : goal.invariant-loop-limits
invariant-loop-limits l = record {
  whole : l.memories ++ map (memory l.marks) (enumerate_from l.at (drop l.limits-index l.defined)) ≡ l.fn.before ++ map (memory l.marks) (enumerate_from l.fn.imported l.fn.defined);
  place : l.at ≡ l.fn.imported + l.limits-index;
}
