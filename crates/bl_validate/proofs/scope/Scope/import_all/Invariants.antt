use Rattle.std.proofs.Common.{take}
use Rattle.bl_validate.specs.Scopes.{Imports}
use Rattle.bl_validate.proofs.scope.Scope.import_all.Given as goal

abbrev pub invariant-loop-entry : goal.invariant-loop-entry
invariant-loop-entry l = Imports l.fn.self (take l.entry-index l.entries) l.self
