use Rattle.std.proofs.Common.{take}
use Rattle.bl_witness.specs.Verdicts.{ArePaths}
use Rattle.bl_witness.proofs.verdict.first_broken.Given as goal

abbrev pub invariant-loop-index : goal.invariant-loop-index
invariant-loop-index l = ArePaths l.parts (take l.index l.paths)
