use Rattle.std.proofs.Common.{◌≡◌, ◌++◌, map, drop}
use Rattle.bl_program.specs.Outcomes.{first_memory}
use Rattle.bl_seq.proofs.opening.before_patches.Given as goal

abbrev pub invariant-loop-memory : goal.invariant-loop-memory
invariant-loop-memory l = l.contents.items ++ map first_memory (drop l.memory-index l.memories) ≡ map first_memory l.memories
