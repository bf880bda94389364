use Rattle.std.proofs.Common.{sym}
use Rattle.bl_flow.proofs.EndLevels.{packed_lawful}
use Rattle.bl_flow.proofs.residual.Residual.amount.Goals as goal

pub returns-clause-lawful : goal.returns-clause-lawful
returns-clause-lawful c = (packed_lawful _ c.self.inside.network c.self.inside.split c.self.inside.capacities c.self.inside.amount c.self.view_is c.self.invariant).0

pub returns-clause-amount : goal.returns-clause-amount
returns-clause-amount c = sym (packed_lawful _ c.self.inside.network c.self.inside.split c.self.inside.capacities c.self.inside.amount c.self.view_is c.self.invariant).1
