use Rattle.std.proofs.Common.{◌≡◌, not, take}
use Rattle.std.specs.List.{filter}
use Rattle.bl_iface.specs.JoinedProgram.{is_named}
use Rattle.bl_iface.proofs.copies.kept_exports.Given as goal

abbrev pub invariant-loop-export : goal.invariant-loop-export
invariant-loop-export l = l.kept ≡ filter (λ export. not (is_named l.functions export.name)) (take l.export-index l.exports)
