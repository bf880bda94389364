use Rattle.bl_validate.proofs.Spaces.{imports_none, imports_next}
use Rattle.bl_validate.proofs.scope.Scope.import_all.Goals as goal

pub loop-entry-init : goal.loop-entry-init
loop-entry-init c = imports_none _

pub loop-entry-preserved : goal.loop-entry-preserved
loop-entry-preserved c = imports_next _ _ _ c.loop-entry-test.true c.entry-item.is c.loop-entry.invariant c.in_ok-import.ensures
