use Rattle.std.proofs.Common.{◌+◌, length, ap, arith}
use Rattle.std.proofs.lemmas.Grind.{common_steps}
use Rattle.bl_program.specs.declared.definitions.MemoryDef.{MemoryDef}
use Rattle.bl_program.proofs.Layouts.{sum_up}
use Rattle.bl_seq.proofs.LayoutLemmas.{sum_next}
use Rattle.bl_seq.proofs.layout.bases_of.Goals as goal

pub overflow_add-base : goal.overflow_add-base
overflow_add-base c =
    let most = c.requires in
    let start = c.loop-memory.invariant.base in
    let up = sum_up (λ (m : MemoryDef). m.reserve) c.args.memories.now (c.loop-memory.memory-index + 1) (length c.args.memories.now) (omega arith) in
    let next = sum_next (λ (m : MemoryDef). m.reserve) c.args.memories.now c.loop-memory.memory-index c.memory-item.result (omega arith) in
    let same = ap (λ (m : MemoryDef). m.reserve) c.memory-item.is in
    omega arith

pub loop-memory-preserved : goal.loop-memory-preserved
loop-memory-preserved c =
    let next = sum_next (λ (m : MemoryDef). m.reserve) c.args.memories.now c.loop-memory.memory-index c.memory-item.result (omega arith) in
    let same = ap (λ (m : MemoryDef). m.reserve) c.memory-item.is in
    let start = c.loop-memory.invariant.base in
    record {
      all = grind (arith, common_steps);
      base = omega arith;
    }
