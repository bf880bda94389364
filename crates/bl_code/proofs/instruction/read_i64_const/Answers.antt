use Rattle.bl_code.specs.declared.error.CodeError.TheVariants.{Malformed}
use Rattle.std.proofs.Common.{refl}
use Rattle.bl_code.proofs.Places.{passes}
use Rattle.bl_code.proofs.Immediates.{err_int64}
use Rattle.bl_code.proofs.instruction.read_i64_const.Goals as goal

pub returns-in_err-number : goal.returns-in_err-number
returns-in_err-number c =
    passes _ c.args.bytes.now c.args.at c.from_residual.result _ c.from_residual.ensures.1
    (err_int64 0x42 c.args.bytes.now c.args.at Malformed refl c.in_err-number.ensures)
