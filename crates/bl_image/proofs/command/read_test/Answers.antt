use Rattle.std.proofs.Common.{refl}
use Rattle.bl_image.proofs.CodeCases.{to_test, is_test, fields_fails, fields_found}
use Rattle.bl_image.proofs.command.read_test.Goals as goal

pub returns-in_err-cond : goal.returns-in_err-cond
returns-in_err-cond c = fields_fails to_test 3 is_test c.args.bytes.now c.args.at c.from_residual.result _ c.from_residual.ensures.1 c.in_err-cond.ensures

pub returns : goal.returns
returns c = let r = c.in_ok-cond in fields_found to_test 3 is_test c.args.bytes.now c.args.at r.place (r.cond, (r.yes, r.no)) refl tt r.ensures
