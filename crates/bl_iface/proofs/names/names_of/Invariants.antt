use Rattle.std.proofs.Common.{take}
use Rattle.bl_iface.specs.Names.{AreNames}
use Rattle.bl_iface.proofs.names.names_of.Given as goal

abbrev pub invariant-loop-one : goal.invariant-loop-one
invariant-loop-one l = AreNames (take l.one-index l.functions) l.names
