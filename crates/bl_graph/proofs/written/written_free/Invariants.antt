use Rattle.std.proofs.Common.{◌≡◌, length, take}
use Rattle.std.specs.FinSet as fin
use Rattle.bl_graph.specs.WrittenVariables.{AreUnprotected}
use Rattle.bl_graph.proofs.written.written_free.Given as goal

abbrev pub invariant-loop-write : goal.invariant-loop-write
invariant-loop-write l = record {
  places : length l.written.items ≡ l.count;
  free : AreUnprotected (take l.write-index l.writes) (fin.contains l.protects) l.written.items;
}
