use Rattle.std.proofs.Common.{◌≡◌, map, take}
use Rattle.bl_wasm.specs.TypeNumbers.{first_of}
use Rattle.bl_wasm.proofs.EqualTypes.{Knows}
use Rattle.bl_wasm.proofs.type_numbers.number_types.Given as goal

abbrev pub invariant-loop-i : goal.invariant-loop-i
invariant-loop-i l = (l.numbers.items ≡ map (first_of l.types) (take l.i l.types)) × Knows l.types l.i l.known
