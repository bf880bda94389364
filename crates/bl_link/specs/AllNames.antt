-- The exports of all parts: names in the tree with external values, in order.
use Rattle.std.specs.Prelude.{ℕ, List, map}
use Rattle.std.specs.List.{flat_map}
use Rattle.bl_link.specs.declared.all_names.PartNames.{PartNames}
use Rattle.bl_link.specs.declared.store.External.{External}
use Rattle.bl_link.specs.ExportNames.{Values, qualified}

-- an export of a part by its name in the tree
abbrev pub behind : List ℕ → List ℕ × External → List ℕ × External
behind part own = (qualified part own.0, own.1)

-- the exports of a part
abbrev pub of_part : PartNames → Values
of_part one = map (behind one.part) one.exports

-- the exports of parts
abbrev pub of_parts : List PartNames → Values
of_parts parts = flat_map of_part parts
