use Rattle.std.proofs.Common.{arith}
use Rattle.std.proofs.lemmas.Bool.{false≢true}
use Rattle.bl_program.specs.declared.definitions.MemoryDef.{MemoryDef}
use Rattle.bl_program.proofs.Totals.{total_next, total_whole}
use Rattle.bl_cmd.proofs.parts.have_room.Goals as goal

pub returns-then-memory-most : goal.returns-then-memory-most
returns-then-memory-most c =
    let whole = total_whole (λ (m : MemoryDef). m.reserve) c.args.memories.now c.loop-memory.memory-index c.loop-memory.total c.memory-item.result c.loop-memory-test.true c.memory-item.is c.loop-memory.invariant.is in
    (λ t. absurd (false≢true t), λ le. absurd (omega arith))

pub loop-memory-preserved : goal.loop-memory-preserved
loop-memory-preserved c = record {
  few = omega arith;
  is = total_next (λ (m : MemoryDef). m.reserve) c.args.memories.now c.loop-memory.memory-index c.loop-memory.total c.memory-item.result c.loop-memory-test.true c.memory-item.is c.loop-memory.invariant.is;
}
