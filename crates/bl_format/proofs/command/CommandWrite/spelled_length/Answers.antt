use Rattle.std.proofs.Common.{arith}
use Rattle.bl_format.specs.Image.{command_code}
use Rattle.bl_format.proofs.LengthLemmas.{byte_long, long_as, two}
use Rattle.bl_format.proofs.command.CommandWrite.spelled_length.Goals as goal

pub returns : goal.returns
returns c = two (byte_long (command_code c.args.self.now)) (long_as (λ t h. (c.requires.is_command, h)) c.length_of_fields.ensures) (omega (arith, c.saturating_add.ensures))
