use Rattle.bl_ct.specs.Facts.{Gathers, ParamFits}
use Rattle.bl_ct.proofs.GatheredLists.{Below}
use Rattle.bl_ct.proofs.facts.push_params.Given as goal

abbrev pub invariant-loop-place : goal.invariant-loop-place
invariant-loop-place l = Gathers (Below l.params (ParamFits l.function l.first) l.place) l.fn.all l.all
