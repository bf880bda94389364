use Rattle.std.proofs.Common.{◌≡◌, map, take, drop, ◌++◌}
use Rattle.bl_link.specs.IndexSpaces.{names}
use Rattle.bl_wasm.specs.IndexMaps.{renamed as renamed_of}
use Rattle.bl_link.proofs.rename.renamed.Given as goal

abbrev pub invariant-loop-item : goal.invariant-loop-item
invariant-loop-item l = l.item-items ≡ map (renamed_of (names l.spaces)) (take l.item-index l.fn.items) ++ drop l.item-index l.fn.items
