use Rattle.std.proofs.Common.{◌≡◌, ◌≤◌, ◌-◌, length, take}
use Rattle.bl_job.specs.Worlds.{took}
use Rattle.bl_job.proofs.output.push_all.Given as goal

-- so much of the text was taken, and nothing failed
abbrev pub invariant-loop-done : goal.invariant-loop-done
invariant-loop-done g l = record {
  within : l.done ≤ length l.text;
  taken : g.O.Sink.taken l.out ≡ took (g.O.Sink.taken l.fn.out) (take l.done l.text);
  faults : g.O.Sink.faults l.out ≡ g.O.Sink.faults l.fn.out;
}

abbrev pub decreases-loop-done : goal.decreases-loop-done
decreases-loop-done g l = length l.text - l.done
