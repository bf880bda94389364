use Rattle.std.proofs.Common.{◌≡◌, ◌++◌, length, map, take}
use Rattle.bl_iface.specs.JoinedProgram.{moved_export}
use Rattle.bl_iface.proofs.joining.exports_of.Given as goal

abbrev pub invariant-loop-export : goal.invariant-loop-export
invariant-loop-export l = l.exports ≡ l.fn.kept ++ map (moved_export (length l.client.functions)) (take l.export-index l.library.exports)
