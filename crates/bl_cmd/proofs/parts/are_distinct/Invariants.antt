use Rattle.std.proofs.Common.{take}
use Rattle.bl_base.proofs.NameSets.{Collects}
use Rattle.bl_cmd.proofs.parts.are_distinct.Given as goal

abbrev pub invariant-loop-entry : goal.invariant-loop-entry
invariant-loop-entry l = Collects (λ x. x.name) (take l.entry-index l.exports) l.names
