use Rattle.std.proofs.Common.{◌≡◌, map, take, Some}
use Rattle.bl_link.specs.IndexSpaces.{number, written}
use Rattle.bl_link.proofs.segments.write_slots.Given as goal

abbrev pub invariant-loop-i : goal.invariant-loop-i
invariant-loop-i l = l.cells.items ≡ written l.place (map (λ function. Some (number l.spaces.functions function)) (take l.i l.functions)) l.fn.cells.items
