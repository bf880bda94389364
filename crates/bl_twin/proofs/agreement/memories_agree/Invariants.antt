use Rattle.std.specs.Prelude.{map}
use Rattle.bl_base.specs.Runs.{memory_of}
use Rattle.bl_twin.proofs.PublicLists.{AgreeBelow}
use Rattle.bl_twin.proofs.agreement.memories_agree.Given as goal

abbrev pub invariant-loop-i : goal.invariant-loop-i
invariant-loop-i l = AgreeBelow (λ memory. memory.label) l.memories (map memory_of l.one) (map memory_of l.other) l.i
