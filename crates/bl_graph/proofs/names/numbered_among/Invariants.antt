use Rattle.std.proofs.Common.{◌≡◌, map, take}
use Rattle.bl_graph.specs.Names.{numbered}
use Rattle.bl_graph.proofs.names.numbered_among.Given as goal

abbrev pub invariant-loop-item : goal.invariant-loop-item
invariant-loop-item l = l.all.items ≡ map (numbered l.names) (take l.item-index l.uses)
