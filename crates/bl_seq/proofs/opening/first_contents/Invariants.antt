use Rattle.std.proofs.Common.{◌≡◌, drop}
use Rattle.std.specs.List.{fold}
use Rattle.bl_base.specs.Bytes.{patched}
use Rattle.bl_program.specs.Outcomes.{first_memories}
use Rattle.bl_seq.specs.InitialMemories.{AreSized}
use Rattle.bl_seq.proofs.opening.first_contents.Given as goal

abbrev pub invariant-loop-patch : goal.invariant-loop-patch
invariant-loop-patch l = record {
  all : fold patched l.memories.items (drop l.patch-index l.start.patches) ≡ first_memories l.parts l.start;
  sized : AreSized l.parts.memories l.memories.items;
}
