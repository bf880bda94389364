use Rattle.std.proofs.Common.{take}
use Rattle.std.specs.List.{All}
use Rattle.bl_iface.specs.InterfaceFunctions.{IsMatched}
use Rattle.bl_iface.proofs.matching.unmatched.Given as goal

abbrev pub invariant-loop-index : goal.invariant-loop-index
invariant-loop-index l = All (IsMatched l.fn.program) (take l.index l.fn.iface.functions)
