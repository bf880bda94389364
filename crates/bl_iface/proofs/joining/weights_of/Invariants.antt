use Rattle.std.proofs.Common.{◌≡◌, ◌++◌, map, take}
use Rattle.bl_iface.specs.JoinedProgram.{library_shift, moved_weight}
use Rattle.bl_iface.proofs.joining.weights_of.Given as goal

abbrev pub invariant-loop-entry : goal.invariant-loop-entry
invariant-loop-entry l = l.weights ≡ l.client.weights ++ map (moved_weight (library_shift l.client)) (take l.entry-index l.library.weights)
