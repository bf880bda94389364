use Rattle.std.proofs.Common.{◌≡◌, ◌++◌, map, drop}
use Rattle.bl_program.specs.declared.definitions.GlobalDef.{GlobalDef}
use Rattle.bl_program.specs.declared.definitions.MemoryDef.{MemoryDef}
use Rattle.bl_seq.proofs.opening.first_statics.Given as goal

abbrev pub invariant-loop-global : goal.invariant-loop-global
invariant-loop-global l = l.numbers.items ++ map (λ (g : GlobalDef). g.first) (drop l.global-index l.parts.globals) ≡ map (λ (g : GlobalDef). g.first) l.parts.globals

abbrev pub invariant-loop-memory : goal.invariant-loop-memory
invariant-loop-memory l = l.numbers.items ++ map (λ (m : MemoryDef). m.pages) (drop l.memory-index l.parts.memories)
    ≡ map (λ (g : GlobalDef). g.first) l.parts.globals ++ map (λ (m : MemoryDef). m.pages) l.parts.memories
