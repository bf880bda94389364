use Rattle.std.proofs.Common.{◌≡◌, ◌++◌, map, drop}
use Rattle.bl_program.specs.declared.definitions.MemoryDef.{MemoryDef}
use Rattle.tests_starts.proofs.starts.pages_of.Given as goal

abbrev pub invariant-loop-memory : goal.invariant-loop-memory
invariant-loop-memory l = l.pages.items ++ map (λ (m : MemoryDef). m.pages) (drop l.memory-index l.memories) ≡ map (λ (m : MemoryDef). m.pages) l.memories
