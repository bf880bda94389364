use Rattle.std.proofs.Common.{◌≡◌, drop}
use Rattle.bl_base.specs.declared.quantity.Quantity.TheVariants.{Memory}
use Rattle.bl_wasm.specs.Limits.{above, first_in}
use Rattle.bl_decode.proofs.limits.first_memory.Given as goal

abbrev pub invariant-loop-memory : goal.invariant-loop-memory
invariant-loop-memory l = first_in (λ memory. above Memory memory.min) (drop l.memory-index l.memories) ≡ first_in (λ memory. above Memory memory.min) l.memories
