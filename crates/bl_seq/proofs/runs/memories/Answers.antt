use Rattle.std.proofs.Common.{◌≡◌, ℕ, ◌+◌, ◌<◌, ◌≤◌, ◌∙◌, length, get_or, ap, subst, sym, arith}
use Rattle.bl_base.specs.Runs.{memory_of}
use Rattle.bl_program.specs.declared.definitions.MemoryDef.{MemoryDef}
use Rattle.bl_program.proofs.Layouts.{sum_up}
use Rattle.bl_seq.specs.RegisterTrees.{register_at}
use Rattle.bl_seq.proofs.LayoutLemmas.{sum_next}
use Rattle.bl_seq.specs.FinalMemories.{IsWhole, pages_at}
use Rattle.bl_seq.proofs.OutcomeLemmas.{states_next, states_all, whole_next}
use Rattle.bl_seq.proofs.runs.memories.Goals as goal

pub overflow_add-from : goal.overflow_add-from
overflow_add-from c =
    let memories = c.args.layout.now.parts.now.memories in
    let most = c.requires.layout.rules.rule1.total in
    let start = c.loop-number.invariant.from in
    let lt : c.loop-number.number < length memories = omega (arith, ap length c.as_slice-memory-items.ensures) in
    let is : c.memory-item.result ≡ get_or memories c.loop-number.number c.memory-item.result = cc in
    let up = sum_up (λ (m : MemoryDef). m.reserve) memories (c.loop-number.number + 1) (length memories) (omega arith) in
    let next = sum_next (λ (m : MemoryDef). m.reserve) memories c.loop-number.number c.memory-item.result lt in
    let same = ap (λ (m : MemoryDef). m.reserve) is in
    omega arith

pub copied-requires : goal.copied-requires
copied-requires c =
    let registers : (ℕ → ℕ → ℕ) = λ depth x. register_at c.args.registers.now depth x in
    let memories = c.args.layout.now.parts.now.memories in
    let lt : c.loop-number.number < length memories = omega (arith, ap length c.as_slice-memory-items.ensures) in
    let is : c.memory-item.result ≡ get_or memories c.loop-number.number c.memory-item.result = cc in
    let both = whole_next registers c.args.space.now memories c.len-globals.result c.loop-number.from c.loop-number.number c.memory-item.result
    c.memory-item.result lt is c.loop-number.invariant.whole in
    subst (λ n. IsWhole (pages_at c.args.space.now c.loop-number.from n)) (sym c.at-pages.ensures) both.0

pub loop-number-preserved : goal.loop-number-preserved
loop-number-preserved c =
    let registers : (ℕ → ℕ → ℕ) = λ depth x. register_at c.args.registers.now depth x in
    let memories = c.args.layout.now.parts.now.memories in
    let start = c.loop-number.invariant.from in
    let lt : c.loop-number.number < length memories = omega (arith, ap length c.as_slice-memory-items.ensures) in
    let is : c.memory-item.result ≡ get_or memories c.loop-number.number c.memory-item.result = cc in
    let next = sum_next (λ (m : MemoryDef). m.reserve) memories c.loop-number.number c.memory-item.result lt in
    let same = ap (λ (m : MemoryDef). m.reserve) is in
    let both = whole_next registers c.args.space.now memories c.len-globals.result c.loop-number.from c.loop-number.number c.memory-item.result
    c.memory-item.result lt is c.loop-number.invariant.whole in
    let state : memory_of c.in_ok-copied.field-0 ≡ pages_at c.args.space.now c.loop-number.from c.at-pages.result = c.in_ok-copied.ensures in
    record {
      all = states_next registers c.args.space.now memories c.loop-number.memories c.push.new.self c.in_ok-copied.field-0
          c.len-globals.result c.loop-number.from c.loop-number.number c.memory-item.result c.memory-item.result lt is c.in_ok-push.ensures.ok
          (state ∙ ap (λ n. pages_at c.args.space.now c.loop-number.from n) c.at-pages.ensures)
          ∙ c.loop-number.invariant.all;
      whole = both.1;
      from = omega arith;
    }

pub returns : goal.returns
returns c =
    let le : length c.args.layout.now.parts.now.memories ≤ c.loop-number.number = omega (arith, ap length c.as_slice-memory-items.ensures) in
    states_all (λ depth x. register_at c.args.registers.now depth x) c.args.space.now c.args.layout.now.parts.now.memories c.loop-number.memories c.len-globals.result
    c.loop-number.from c.loop-number.number _ le c.loop-number.invariant.all
