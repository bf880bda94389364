use Rattle.std.proofs.Common.{◌≡◌, ◌++◌, map, take}
use Rattle.bl_graph.specs.declared.facts.Use.{Use}
use Rattle.bl_ct.proofs.facts.push_used.Given as goal

abbrev pub invariant-loop-one : goal.invariant-loop-one
invariant-loop-one l = l.vars.items ≡ l.fn.vars.items ++ map (λ (one : Use). one.var.0) (take l.one-index l.uses)
