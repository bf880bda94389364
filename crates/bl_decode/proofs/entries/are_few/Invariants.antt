use Rattle.std.proofs.Common.{◌≡◌, ◌<◌, ◌^◌, sum_by, take}
use Rattle.bl_decode.proofs.entries.are_few.Given as goal

abbrev pub invariant-loop-run : goal.invariant-loop-run
invariant-loop-run l = record {
  sum : l.count ≡ sum_by (λ run. run.count) (take l.run-index l.runs);
  few : l.count < 2 ^ 32;
}
