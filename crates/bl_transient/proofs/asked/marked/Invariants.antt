use Rattle.std.proofs.Common.{◌≡◌, length, take}
use Rattle.bl_graph.proofs.AskedLists.{Marks}
use Rattle.bl_transient.proofs.asked.marked.Given as goal

abbrev pub invariant-loop-number : goal.invariant-loop-number
invariant-loop-number l = record {
  places : length l.marks.items ≡ l.count;
  exact : Marks (take l.number-index l.numbers) l.marks.items;
}
