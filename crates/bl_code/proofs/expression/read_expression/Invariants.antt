use Rattle.std.proofs.Common.{◌≡◌, ◌-◌, [], length, Some, reverse}
use Rattle.bl_wasm.specs.Values.{each}
use Rattle.bl_wasm.specs.Instructions.{instruction}
use Rattle.bl_code.specs.ReaderAnswers.{IsAt}
use Rattle.std.specs.Option.{option_map}
use Rattle.bl_wasm.specs.OpenConstructs.{open_through}
use Rattle.bl_code.specs.Constructs.{kept}
use Rattle.bl_code.proofs.expression.read_expression.Given as goal

abbrev pub invariant-loop-constructs : goal.invariant-loop-constructs
invariant-loop-constructs l = record {
  read : IsAt (each instruction) l.bytes l.at l.place l.items;
  nested : option_map kept (open_through l.items []) ≡ Some (reverse l.constructs.items);
}

abbrev pub decreases-loop-constructs : goal.decreases-loop-constructs
decreases-loop-constructs l = length l.bytes - l.place
