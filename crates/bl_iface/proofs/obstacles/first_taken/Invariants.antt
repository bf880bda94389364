use Rattle.std.proofs.Common.{take}
use Rattle.std.specs.List.{All}
use Rattle.bl_iface.specs.JoinedProgram.{IsNew}
use Rattle.bl_iface.proofs.obstacles.first_taken.Given as goal

abbrev pub invariant-loop-index : goal.invariant-loop-index
invariant-loop-index l = All (IsNew l.kept) (take l.index l.exports)
