use Rattle.std.proofs.Common.{◌≡◌, length}
use Rattle.bl_wasm.specs.Values.{each}
use Rattle.bl_code.specs.ReaderAnswers.{IsAt}
use Rattle.bl_code.proofs.format.read_each.Given as goal

abbrev pub invariant-loop : goal.invariant-loop
invariant-loop g l = record {
  read : IsAt (each g.F.Format.spellings) l.bytes l.at l.place l.trees;
  counted : length l.trees ≡ l.counter;
}
