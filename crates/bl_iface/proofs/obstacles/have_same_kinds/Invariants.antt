use Rattle.std.proofs.Common.{◌≡◌, take}
use Rattle.bl_iface.specs.JoinedProgram.{kinds}
use Rattle.bl_iface.proofs.obstacles.have_same_kinds.Given as goal

abbrev pub invariant-loop-index : goal.invariant-loop-index
invariant-loop-index l = kinds (take l.index l.ours) ≡ kinds (take l.index l.theirs)
