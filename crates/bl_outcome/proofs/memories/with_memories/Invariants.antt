use Rattle.std.proofs.Common.{◌≡◌, ◌++◌, map}
use Rattle.bl_base.specs.Runs.{memory_of}
use Rattle.bl_outcome.specs.Outcomes.{memories_text}
use Rattle.bl_outcome.proofs.MemoryTexts.{texts_from}
use Rattle.bl_outcome.proofs.memories.with_memories.Given as goal

abbrev pub invariant-loop-number : goal.invariant-loop-number
invariant-loop-number l = l.text.items ++ texts_from (map memory_of l.initial_memories) l.memories l.number ≡ l.fn.text.items ++ memories_text (map memory_of l.initial_memories) (map memory_of l.memories)
