use Rattle.std.proofs.Common.{◌≡◌, ◌++◌, take}
use Rattle.bl_iface.proofs.copies.push_copies.Given as goal

abbrev pub invariant-loop-one : goal.invariant-loop-one
invariant-loop-one g l = l.to ≡ l.initial.to ++ take l.one-index l.items
