use Rattle.std.proofs.Common.{◌≡◌, map, take}
use Rattle.bl_reduce.specs.Outcomes.{first_memory}
use Rattle.bl_memory.proofs.spaces.Spaces.of.Given as goal

abbrev pub invariant-loop-memory : goal.invariant-loop-memory
invariant-loop-memory l = l.cells.items ≡ map first_memory (take l.memory-index l.memories)
