use Rattle.std.proofs.Common.{[]}
use Rattle.bl_ct.specs.Facts.{Gathers, LoadFits, StoreFits}
use Rattle.bl_ct.proofs.GatheredLists.{Below}
use Rattle.bl_ct.proofs.facts.accesses_of.Given as goal

abbrev pub invariant-loop-at : goal.invariant-loop-at
invariant-loop-at l = record {
  loads : Gathers (Below l.parts.commands (LoadFits l.parts) l.at) [] l.loads;
  stores : Gathers (Below l.parts.commands (StoreFits l.parts) l.at) [] l.stores;
}
