use Rattle.std.proofs.Common.{refl}
use Rattle.bl_image.proofs.CodeCases.{to_arg, is_arg, fields_fails, fields_found}
use Rattle.bl_image.proofs.command.read_arg.Goals as goal

pub returns-in_err-mark : goal.returns-in_err-mark
returns-in_err-mark c = fields_fails to_arg 5 is_arg c.args.bytes.now c.args.at c.from_residual.result _ c.from_residual.ensures.1 c.in_err-mark.ensures

pub returns : goal.returns
returns c = let r = c.in_ok-mark in fields_found to_arg 5 is_arg c.args.bytes.now c.args.at r.place (r.mark, (r.function, (r.index, r.value))) refl tt r.ensures
