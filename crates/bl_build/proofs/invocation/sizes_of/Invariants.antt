use Rattle.std.proofs.Common.{◌≡◌, ◌++◌, map, drop}
use Rattle.bl_wasm.specs.declared.linked.Memory.{Memory}
use Rattle.bl_build.specs.InvocationStages.{sizes_of}
use Rattle.bl_build.proofs.invocation.sizes_of.Given as goal

abbrev pub invariant-loop-memory : goal.invariant-loop-memory
invariant-loop-memory l = l.pages.items ++ map (λ (memory : Memory). memory.pages) (drop l.memory-index l.tree.memories) ≡ sizes_of l.tree
