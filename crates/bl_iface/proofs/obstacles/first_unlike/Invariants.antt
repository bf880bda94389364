use Rattle.std.proofs.Common.{take}
use Rattle.std.specs.List.{All}
use Rattle.bl_iface.specs.JoinedProgram.{HasSameTypes}
use Rattle.bl_iface.proofs.obstacles.first_unlike.Given as goal

abbrev pub invariant-loop-index : goal.invariant-loop-index
invariant-loop-index l = All (HasSameTypes l.client l.library) (take l.index l.iface.functions)
