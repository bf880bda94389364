use Rattle.std.proofs.Common.{◌≡◌, ◌++◌, map, take}
use Rattle.bl_ct.specs.declared.facts.Declared.{Declared}
use Rattle.bl_ct.proofs.facts.push_declared.Given as goal

abbrev pub invariant-loop-one : goal.invariant-loop-one
invariant-loop-one l = l.vars.items ≡ l.fn.vars.items ++ map (λ (one : Declared). one.var) (take l.one-index l.declared)
