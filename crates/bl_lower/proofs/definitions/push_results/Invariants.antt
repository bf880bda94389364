use Rattle.std.proofs.Common.{◌≡◌, ◌++◌, drop}
use Rattle.bl_lower.specs.Trees.{demanded_from}
use Rattle.bl_program.specs.declared.definitions.Demand.TheVariants as demand
use Rattle.bl_lower.proofs.definitions.push_results.Given as goal

abbrev pub invariant-loop-index : goal.invariant-loop-index
invariant-loop-index l = l.to ++ demanded_from (demand.Result l.function) l.index (drop l.index l.demanded) ≡ l.fn.to ++ demanded_from (demand.Result l.function) 0 l.demanded
