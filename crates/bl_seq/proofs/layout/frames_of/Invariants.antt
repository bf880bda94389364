use Rattle.std.proofs.Common.{◌≡◌, ◌+◌, ◌*◌, ◌≤◌, ◌++◌, drop}
use Rattle.bl_seq.specs.Layouts.{frames_from}
use Rattle.bl_seq.proofs.layout.frames_of.Given as goal

abbrev pub invariant-loop-function : goal.invariant-loop-function
invariant-loop-function l = record {
  all : l.frames.items ++ frames_from l.entry l.first (drop l.function-index l.functions) ≡ frames_from 7 l.fn.statics l.functions;
  entry : l.entry ≤ 7 + l.function-index * 4294967296;
  first : l.first ≤ l.fn.statics + l.function-index * 4294967296;
}
