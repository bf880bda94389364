use Rattle.std.proofs.Common.{◌≡◌, ◌++◌, map, drop}
use Rattle.bl_program.specs.declared.definitions.MemoryDef.{MemoryDef}
use Rattle.bl_build.specs.EntryStages.{pages_of}
use Rattle.bl_build.proofs.entry.pages_of.Given as goal

abbrev pub invariant-loop-memory : goal.invariant-loop-memory
invariant-loop-memory l = l.pages.items ++ map (λ (memory : MemoryDef). memory.pages) (drop l.memory-index l.parts.memories) ≡ pages_of l.parts
