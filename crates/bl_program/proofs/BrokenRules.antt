-- A well-formed program breaks no rule.
use Rattle.std.proofs.Common.{◌≡◌, ℕ}
use Rattle.bl_program.specs.Rules.{IsWellFormed, Breaks, memories, functions, exports, variables, targets, ranges, accesses, growths, demands}
use Rattle.bl_program.specs.declared.definitions.ProgramParts.{ProgramParts as Program}

pub unbroken : (program : Program) (rule position : ℕ) → IsWellFormed program → Breaks rule position program → ⊥
unbroken program rule position well (memories e f bad) = bad well.rule1
unbroken program rule position well (functions e f bad) = bad well.rule2
unbroken program rule position well (exports e f bad) = bad well.rule3
unbroken program rule position well (variables e bad) = bad (well.rule4 position)
unbroken program rule position well (targets e bad) = bad (well.rule5 position)
unbroken program rule position well (ranges e bad) = bad (well.rule6 position)
unbroken program rule position well (accesses e bad) = bad (well.rule7 position)
unbroken program rule position well (growths e bad) = bad (well.rule8 position)
unbroken program rule position well (demands e f bad) = bad well.rule9
