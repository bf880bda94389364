use Rattle.bl_rob.proofs.rob.Rob.outcome.Goals as goal

pub outcome-requires-clause-reached : goal.outcome-requires-clause-reached
outcome-requires-clause-reached g c = (g.row.W, c.self.invariant.3)
