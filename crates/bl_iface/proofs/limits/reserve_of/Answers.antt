use Rattle.std.proofs.Common.{◌+◌, ap, ◌∙◌, arith}
use Rattle.bl_program.specs.declared.definitions.MemoryDef.{MemoryDef}
use Rattle.bl_program.proofs.Totals.{total_next, total_whole}
use Rattle.bl_iface.proofs.limits.reserve_of.Goals as goal

pub overflow_add-total : goal.overflow_add-total
overflow_add-total c =
    let whole = total_whole (λ (m : MemoryDef). m.reserve) c.args.memories.now c.loop-memory.memory-index c.loop-memory.total c.memory-item.result c.loop-memory-test.true c.memory-item.is c.loop-memory.invariant in
    let same = c.from-total.ensures in
    let few = c.requires in
    omega arith

pub loop-memory-preserved : goal.loop-memory-preserved
loop-memory-preserved c =
    ap (λ k. c.loop-memory.total + k) c.from-total.ensures
    ∙ total_next (λ (m : MemoryDef). m.reserve) c.args.memories.now c.loop-memory.memory-index c.loop-memory.total c.memory-item.result c.loop-memory-test.true c.memory-item.is c.loop-memory.invariant
