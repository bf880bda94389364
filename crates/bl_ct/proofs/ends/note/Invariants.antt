use Rattle.std.proofs.Common.{take}
use Rattle.bl_ct.specs.SecretSearch.{IsNoted}
use Rattle.bl_ct.proofs.ends.note.Given as goal

abbrev pub invariant-loop-item : goal.invariant-loop-item
invariant-loop-item l = IsNoted l.names (take l.item-index l.uses) l.fn.ends.items l.ends.items
