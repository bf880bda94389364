use Rattle.std.proofs.Common.{arith}
use Rattle.bl_format.specs.Image.{operand_code}
use Rattle.bl_format.proofs.LengthLemmas.{byte_long, two}
use Rattle.bl_format.proofs.write.OperandWrite.spelled_length.Goals as goal

pub returns : goal.returns
returns c = two (byte_long (operand_code c.args.self.now)) c.length_of_operand.ensures (omega (arith, c.saturating_add.ensures))
