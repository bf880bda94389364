use Rattle.std.proofs.Common.{◌≡◌, length}
use Rattle.bl_layout.proofs.layout_writer.zeros.Given as goal

abbrev pub invariant-loop-done : goal.invariant-loop-done
invariant-loop-done l = length l.zeros.items ≡ l.done
