use Rattle.std.proofs.Common.{◌≡◌, ◌++◌, map, drop}
use Rattle.bl_lower.specs.Trees.{demanded_from, demanded_results}
use Rattle.bl_program.specs.declared.definitions.Demand.TheVariants as demand
use Rattle.bl_lower.proofs.definitions.demands.Given as goal

abbrev pub invariant-loop-number : goal.invariant-loop-number
invariant-loop-number l = l.all ++ demanded_results l.number (drop l.number l.functions) ≡ demanded_results 0 l.functions

abbrev pub invariant-loop-number-2 : goal.invariant-loop-number-2
invariant-loop-number-2 l = l.all ++ demanded_from demand.Global l.number (map (λ global. global.demanded) (drop l.number l.globals))
    ≡ demanded_results 0 l.functions ++ demanded_from demand.Global 0 (map (λ global. global.demanded) l.globals)
