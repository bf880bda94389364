use Rattle.std.proofs.Common.{◌≡◌, ◌++◌, drop}
use Rattle.bl_program.specs.Outcomes.{space_of}
use Rattle.bl_seq.proofs.opening.space_of.Given as goal

abbrev pub invariant-loop-i : goal.invariant-loop-i
invariant-loop-i l = l.space ++ space_of (drop l.i l.memories) (drop l.i l.contents) ≡ space_of l.memories l.contents
