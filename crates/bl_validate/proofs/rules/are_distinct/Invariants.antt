use Rattle.std.proofs.Common.{take}
use Rattle.bl_base.proofs.NameSets.{Collects}
use Rattle.bl_validate.proofs.rules.are_distinct.Given as goal

abbrev pub invariant-loop-export : goal.invariant-loop-export
invariant-loop-export l = Collects (λ x. x.name) (take l.export-index l.exports) l.names
