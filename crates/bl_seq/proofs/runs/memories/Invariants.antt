use Rattle.std.proofs.Common.{◌≡◌, ◌+◌, ◌*◌, ◌++◌, map, drop}
use Rattle.std.specs.List.{All}
use Rattle.bl_base.specs.Runs.{memory_of}
use Rattle.bl_program.specs.Layout.{sum_before}
use Rattle.bl_program.specs.Steps.{states_from}
use Rattle.bl_program.specs.declared.definitions.MemoryDef.{MemoryDef}
use Rattle.bl_seq.specs.FinalMemories.{IsWhole, memories_of}
use Rattle.bl_seq.specs.RegisterTrees.{register_at}
use Rattle.bl_seq.proofs.runs.memories.Given as goal

abbrev pub invariant-loop-number : goal.invariant-loop-number
invariant-loop-number l = record {
  all : map memory_of l.memories ++ states_from (λ depth x. register_at l.registers depth x) l.space (l.globals + l.number) l.from (drop l.number l.layout.parts.now.memories)
      ≡ memories_of l.layout.parts.now (λ depth x. register_at l.registers depth x) l.space;
  whole : All IsWhole (states_from (λ depth x. register_at l.registers depth x) l.space (l.globals + l.number) l.from (drop l.number l.layout.parts.now.memories));
  from : l.from ≡ 65536 * sum_before (λ (m : MemoryDef). m.reserve) l.layout.parts.now.memories l.number;
}
