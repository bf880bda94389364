use Rattle.std.proofs.Common.{◌≡◌, ◌++◌, map, take}
use Rattle.bl_wasm.specs.TypeNumbers.{letter}
use Rattle.bl_wasm.proofs.type_numbers.push_letters.Given as goal

abbrev pub invariant-loop-kind : goal.invariant-loop-kind
invariant-loop-kind l = l.text.items ≡ l.initial.text.items ++ map letter (take l.kind-index l.types)
