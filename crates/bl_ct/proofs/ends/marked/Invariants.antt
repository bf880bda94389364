use Rattle.std.proofs.Common.{◌≡◌, ℕ, length, take}
use Rattle.std.specs.Prelude.{IsTrue, ◌↔◌}
use Rattle.std.specs.List.{Contains}
use Rattle.bl_ct.specs.SecretSearch.{mark_of}
use Rattle.bl_ct.proofs.ends.marked.Given as goal

abbrev pub invariant-loop-v : goal.invariant-loop-v
invariant-loop-v l = record {
  places : length l.marks.items ≡ length l.names;
  exact : (v : ℕ) → IsTrue (mark_of l.names l.marks.items v) ↔ Contains (take l.v-index l.list) v;
}
