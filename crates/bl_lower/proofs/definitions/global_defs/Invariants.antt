use Rattle.std.proofs.Common.{◌≡◌, map, take}
use Rattle.bl_lower.specs.Trees.{global_def}
use Rattle.bl_lower.proofs.definitions.global_defs.Given as goal

abbrev pub invariant-loop-global : goal.invariant-loop-global
invariant-loop-global l = l.all ≡ map global_def (take l.global-index l.globals)
