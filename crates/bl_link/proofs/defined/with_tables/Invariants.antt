use Rattle.std.proofs.Common.{◌≡◌, ◌++◌, map, drop}
use Rattle.bl_link.specs.Links.{table}
use Rattle.bl_link.proofs.defined.with_tables.Given as goal

abbrev pub invariant-loop-limits : goal.invariant-loop-limits
invariant-loop-limits l = l.tables ++ map table (drop l.limits-index l.defined) ≡ l.fn.before ++ map table l.fn.defined
