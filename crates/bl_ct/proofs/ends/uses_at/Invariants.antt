use Rattle.std.proofs.Common.{take}
use Rattle.bl_ct.specs.SecretSearch.{KeptAt}
use Rattle.bl_ct.proofs.ends.uses_at.Given as goal

abbrev pub invariant-loop-item : goal.invariant-loop-item
invariant-loop-item l = KeptAt (take l.item-index l.uses) l.marks l.kept.items
