use Rattle.std.proofs.Common.{refl}
use Rattle.bl_program.specs.declared.command.Command.TheVariants.{Trap}
use Rattle.bl_image.proofs.CodeCases.{is_trap, fields_fails, fields_found}
use Rattle.bl_image.proofs.command.read_trap.Goals as goal

pub returns-in_err-kind : goal.returns-in_err-kind
returns-in_err-kind c = fields_fails Trap 9 is_trap c.args.bytes.now c.args.at c.from_residual.result _ c.from_residual.ensures.1 c.in_err-kind.ensures

pub returns : goal.returns
returns c = let r = c.in_ok-kind in fields_found Trap 9 is_trap c.args.bytes.now c.args.at r.place r.kind refl tt r.ensures
