use Rattle.std.proofs.Common.{◌≡◌, drop}
use Rattle.bl_build.specs.EntryStages.{function_named}
use Rattle.bl_build.proofs.entry.number_named.Given as goal

abbrev pub invariant-loop-export : goal.invariant-loop-export
invariant-loop-export l = function_named l.name (drop l.export-index l.exports) ≡ function_named l.name l.exports
