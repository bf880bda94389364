use Rattle.std.proofs.Common.{refl}
use Rattle.bl_program.specs.declared.command.Command.TheVariants.{Jump}
use Rattle.bl_image.proofs.CodeCases.{is_jump, fields_fails, fields_found}
use Rattle.bl_image.proofs.command.read_jump.Goals as goal

pub returns-in_err-to : goal.returns-in_err-to
returns-in_err-to c = fields_fails Jump 4 is_jump c.args.bytes.now c.args.at c.from_residual.result _ c.from_residual.ensures.1 c.in_err-to.ensures

pub returns : goal.returns
returns c = let r = c.in_ok-to in fields_found Jump 4 is_jump c.args.bytes.now c.args.at r.place r.to refl tt r.ensures
