use Rattle.std.proofs.Common.{◌≡◌, map, take}
use Rattle.bl_machine.proofs.interpreter.begin.Given as goal

abbrev pub invariant-loop-global : goal.invariant-loop-global
invariant-loop-global l = l.globals ≡ map (λ global. global.initial) (take l.global-index l.tree.globals)
