use Rattle.std.proofs.Common.{◌≡◌, ◌≤◌}
use Rattle.bl_program.specs.Layout.{sum_before}
use Rattle.bl_program.specs.declared.definitions.MemoryDef.{MemoryDef}
use Rattle.bl_cmd.proofs.parts.have_room.Given as goal

abbrev pub invariant-loop-memory : goal.invariant-loop-memory
invariant-loop-memory l = record {
  few : l.total ≤ l.most;
  is : l.total ≡ sum_before (λ (memory : MemoryDef). memory.reserve) l.memories l.memory-index;
}
