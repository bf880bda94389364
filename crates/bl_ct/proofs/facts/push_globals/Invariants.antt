use Rattle.bl_ct.specs.Facts.{Gathers, GlobalFits}
use Rattle.bl_ct.proofs.GatheredLists.{Below}
use Rattle.bl_ct.proofs.facts.push_globals.Given as goal

abbrev pub invariant-loop-number : goal.invariant-loop-number
invariant-loop-number l = Gathers (Below l.globals GlobalFits l.number) l.fn.all l.all
