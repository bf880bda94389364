use Rattle.std.proofs.Common.{take}
use Rattle.std.specs.List.{All}
use Rattle.bl_witness.specs.Values.{IsPathInRange}
use Rattle.bl_witness.proofs.write.paths_in_range.Given as goal

abbrev pub invariant-loop-path : goal.invariant-loop-path
invariant-loop-path l = All IsPathInRange (take l.path-index l.paths)
