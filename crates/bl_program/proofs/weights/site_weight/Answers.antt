use Rattle.std.proofs.Common.{◌∙◌}
use Rattle.bl_program.proofs.Totals.{site_exact}
use Rattle.bl_program.proofs.weights.site_weight.Goals as goal

pub returns-clause-weight : goal.returns-clause-weight
returns-clause-weight c = (site_exact c.args.program.now c.parts.result.now c.args.at.0 c.weight_at.result (c.parts.ensures.same ∙ c.program.ensures.same) c.program.ensures.rules c.requires c.weight_at.ensures).0

pub returns-clause-positive : goal.returns-clause-positive
returns-clause-positive c = (site_exact c.args.program.now c.parts.result.now c.args.at.0 c.weight_at.result (c.parts.ensures.same ∙ c.program.ensures.same) c.program.ensures.rules c.requires c.weight_at.ensures).1
