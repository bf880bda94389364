use Rattle.bl_flow.proofs.Codes.{decoded_next}
use Rattle.bl_flow.proofs.optional.OptionalNumber.of.Goals as goal

pub returns : goal.returns
returns c = decoded_next c.args.number
