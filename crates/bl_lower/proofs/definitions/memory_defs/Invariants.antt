use Rattle.std.proofs.Common.{◌≡◌, map, take}
use Rattle.bl_lower.specs.Trees.{memory_def}
use Rattle.bl_lower.proofs.definitions.memory_defs.Given as goal

abbrev pub invariant-loop-memory : goal.invariant-loop-memory
invariant-loop-memory l = l.all ≡ map memory_def (take l.memory-index l.memories)
