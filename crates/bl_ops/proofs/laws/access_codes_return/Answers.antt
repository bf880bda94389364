use Rattle.bl_ops.proofs.Codes.{access_code_returns}
use Rattle.bl_ops.proofs.laws.access_codes_return.Goals as goal

pub returns-clause-code : goal.returns-clause-code
returns-clause-code c = access_code_returns c.args.kind
