use Rattle.std.proofs.Common.{◌≡◌, drop}
use Rattle.bl_memory.specs.Spaces.{patched_all}
use Rattle.bl_memory.proofs.spaces.Spaces.patch.Given as goal

abbrev pub invariant-loop-patch : goal.invariant-loop-patch
invariant-loop-patch l = patched_all l.self (drop l.patch-index l.patches) ≡ patched_all l.initial.self l.patches
