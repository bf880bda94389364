use Rattle.std.specs.BTreeSet as sorted
use Rattle.std.specs.Ordering.{nat_cmp}
use Rattle.bl_iface.proofs.VariableSets.{NoneBefore}
use Rattle.bl_iface.proofs.choice.first_of.Given as goal

abbrev pub invariant-loop-one : goal.invariant-loop-one
invariant-loop-one l = NoneBefore (sorted.contains nat_cmp l.vars) l.uses l.one-index
