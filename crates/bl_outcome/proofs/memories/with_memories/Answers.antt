use Rattle.std.proofs.Common.{◌+◌, ◌++◌, ◌∙◌, ap, arith, map}
use Rattle.bl_base.specs.Runs.{memory_of}
use Rattle.bl_outcome.specs.Outcomes.{memory_text}
use Rattle.bl_outcome.proofs.MemoryTexts.{texts_all, texts_from, texts_next}
use Rattle.bl_outcome.proofs.memories.with_memories.Goals as goal

pub loop-number-preserved : goal.loop-number-preserved
loop-number-preserved c =
    let initial = map memory_of c.args.initial_memories.now in
    let memory = c.index-memories-number.result in
    ap (λ t. t ++ texts_from initial c.args.memories.now (c.loop-number.number + 1))
    (c.in_ok-push_memory.ensures ∙ ap (λ b. c.loop-number.text.items ++ memory_text c.loop-number.number b (memory_of memory)) c.initial_bytes-before.ensures)
    ∙ texts_next initial c.args.memories.now c.loop-number.text.items c.loop-number.number memory memory (omega arith) c.index-memories-number.is ∙ c.loop-number.invariant

pub returns : goal.returns
returns c = texts_all (map memory_of c.args.initial_memories.now) c.args.memories.now c.loop-number.text.items _ c.loop-number.number (omega arith) c.loop-number.invariant
