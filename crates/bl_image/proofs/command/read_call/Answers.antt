use Rattle.std.proofs.Common.{refl}
use Rattle.bl_program.specs.declared.command.Command.TheVariants.{Call}
use Rattle.bl_image.proofs.CodeCases.{is_call, fields_fails, fields_found}
use Rattle.bl_image.proofs.command.read_call.Goals as goal

pub returns-in_err-function : goal.returns-in_err-function
returns-in_err-function c = fields_fails Call 6 is_call c.args.bytes.now c.args.at c.from_residual.result _ c.from_residual.ensures.1 c.in_err-function.ensures

pub returns : goal.returns
returns c = let r = c.in_ok-function in fields_found Call 6 is_call c.args.bytes.now c.args.at r.place r.function refl tt r.ensures
