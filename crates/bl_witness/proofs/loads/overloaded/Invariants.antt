use Rattle.std.proofs.Common.{◌≡◌, ◌<◌, ◌≤◌, ℕ, Some, slice_index}
use Rattle.bl_program.specs.Sites.{site_weight}
use Rattle.bl_witness.proofs.loads.overloaded.Given as goal

abbrev pub invariant-loop-at : goal.invariant-loop-at
invariant-loop-at l = (s w : ℕ) → s < l.at → site_weight l.program s ≡ Some w → slice_index l.loads s ≤ w
