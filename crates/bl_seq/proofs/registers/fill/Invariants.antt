use Rattle.std.proofs.Common.{◌≡◌, ◌/◌, length}
use Rattle.bl_seq.specs.Windows.{AreEqual, seen}
use Rattle.bl_seq.proofs.registers.fill.Given as goal

abbrev pub invariant-loop-cell : goal.invariant-loop-cell
invariant-loop-cell l = (l.window.page ≡ l.x / 512) × (length l.window.leaf ≡ l.cell) × AreEqual (seen l.pages l.initial.window) (seen l.pages l.window)
