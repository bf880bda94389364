use Rattle.bl_ops.proofs.Codes.{code_returns, image_code_returns}
use Rattle.bl_ops.proofs.laws.codes_return.Goals as goal

pub returns-clause-row : goal.returns-clause-row
returns-clause-row c = code_returns c.args.op

pub returns-clause-image : goal.returns-clause-image
returns-clause-image c = image_code_returns c.args.op
