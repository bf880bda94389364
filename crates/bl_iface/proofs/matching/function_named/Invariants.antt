use Rattle.std.proofs.Common.{◌≡◌, drop}
use Rattle.bl_iface.specs.JoinedProgram.{exported}
use Rattle.bl_iface.proofs.matching.function_named.Given as goal

abbrev pub invariant-loop-export : goal.invariant-loop-export
invariant-loop-export l = exported l.exports l.name ≡ exported (drop l.export-index l.exports) l.name
