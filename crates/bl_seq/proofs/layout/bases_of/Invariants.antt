use Rattle.std.proofs.Common.{◌≡◌, ◌*◌, ◌++◌, ◌∷◌, drop}
use Rattle.bl_program.specs.Layout.{sum_before}
use Rattle.bl_program.specs.declared.definitions.MemoryDef.{MemoryDef}
use Rattle.bl_seq.specs.Layouts.{ends_from}
use Rattle.bl_seq.proofs.layout.bases_of.Given as goal

abbrev pub invariant-loop-memory : goal.invariant-loop-memory
invariant-loop-memory l = record {
  all : l.bases.items ++ ends_from l.base (drop l.memory-index l.memories) ≡ 0 ∷ ends_from 0 l.memories;
  base : l.base ≡ 65536 * sum_before (λ (m : MemoryDef). m.reserve) l.memories l.memory-index;
}
