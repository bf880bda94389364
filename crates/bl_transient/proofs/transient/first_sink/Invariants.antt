use Rattle.std.proofs.Common.{take}
use Rattle.bl_transient.specs.Reachability.{FirstSink}
use Rattle.bl_transient.proofs.transient.first_sink.Given as goal

abbrev pub invariant-loop-sink : goal.invariant-loop-sink
invariant-loop-sink l = FirstSink l.marks (take l.sink-index l.sinks) l.first
