use Rattle.std.proofs.Common.{◌≡◌, ℕ, nat_eq, take}
use Rattle.std.specs.BTreeSet as sorted
use Rattle.std.specs.List.{list_any}
use Rattle.std.specs.Ordering.{nat_cmp}
use Rattle.bl_iface.proofs.choice.set_of.Given as goal

abbrev pub invariant-loop-x : goal.invariant-loop-x
invariant-loop-x l = (x : ℕ) → sorted.contains nat_cmp l.set x ≡ list_any (nat_eq x) (take l.x-index l.vars)
