use Rattle.std.proofs.Common.{◌≡◌, map, take}
use Rattle.bl_graph.specs.Secrets.{demanded_by}
use Rattle.bl_ct.proofs.facts.demanded_of.Given as goal

abbrev pub invariant-loop-demand : goal.invariant-loop-demand
invariant-loop-demand l = l.demanded ≡ map (demanded_by l.parts) (take l.demand-index l.parts.demands)
