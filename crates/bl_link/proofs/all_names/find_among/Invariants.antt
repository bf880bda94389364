use Rattle.std.proofs.Common.{◌≡◌, drop}
use Rattle.bl_wasm.specs.Exports.{value_named}
use Rattle.bl_link.specs.AllNames.{of_parts}
use Rattle.bl_link.proofs.all_names.find_among.Given as goal

-- what is left decides
abbrev pub invariant-loop-part : goal.invariant-loop-part
invariant-loop-part l = value_named l.name (of_parts (drop l.part-index l.parts)) ≡ value_named l.name (of_parts l.parts)
